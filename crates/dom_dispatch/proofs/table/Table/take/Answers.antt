use Rattle.dom_dispatch.proofs.Cited.{arith, is_of_type}
use Rattle.dom_dispatch.proofs.Taking.{indexed-less, parted, parted-within, parted-fewer, parted-others}
use Rattle.dom_dispatch.proofs.table.Table.take.Goals as goal

pub index_mut-requires : goal.index_mut-requires
index_mut-requires c =
    let es = c.args.self.now.entries.items in
    let s = parted (is_of_type c.args.node c.args.event.now) es c.args.place c.requires.there in
    let inside = parted-within es c.args.place s in
    omega (arith, inside, c.args.self.now.entries.ok)

pub returns-clause-indexed : goal.returns-clause-indexed
returns-clause-indexed c =
    let es = c.args.self.now.entries.items in
    let s = parted (is_of_type c.args.node c.args.event.now) es c.args.place c.requires.there in
    indexed-less es c.args.place s c.args.self.now.places c.remove.new.self c.requires.indexed c.remove.ensures.others

pub returns-clause-fewer : goal.returns-clause-fewer
returns-clause-fewer c =
    let es = c.args.self.now.entries.items in
    parted-fewer es c.args.place (parted (is_of_type c.args.node c.args.event.now) es c.args.place c.requires.there)

pub returns-clause-others : goal.returns-clause-others
returns-clause-others c =
    let es = c.args.self.now.entries.items in
    parted-others es c.args.place (parted (is_of_type c.args.node c.args.event.now) es c.args.place c.requires.there)
