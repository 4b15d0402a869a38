use Rattle.dom_path.proofs.Cited.{Once-forest, Has-forest}
use Rattle.dom_path.proofs.Endings.{paths-end, path-once}
use Rattle.dom_path.proofs.laws.law_paths_end.Goals as goal

pub returns-clause-there : goal.returns-clause-there
returns-clause-there c f slots depth stands are hosted k node related composed =
    paths-end f (λ j there. Has-forest f stands.once j there) (Once-forest f stands.once stands.only) (record { hosted = hosted; nodes = are.hosts })
    k node related composed

pub returns-clause-once : goal.returns-clause-once
returns-clause-once c s depth target related composed xs ys g h = path-once s depth target related composed xs ys g h
