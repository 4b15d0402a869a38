-- The law of one small step: it is an own step of a group, which the machine that is told things makes too, or it leaves what the group has, but for what
-- it is told. What it asks of live documents every machine's run keeps.
use Rattle.std.specs.Prelude.{ℕ, ◌≡◌, Bool, false, IsTrue, List, [], Some, option_to_list, if◌then◌else◌, true, None, Option}
use Rattle.std.specs.List.{AllByRecursion}
use Rattle.dom_base.specs.declared.Owner.{Owner}
use Rattle.dom_base.specs.declared.Owner.TheVariants.{Page}
use Rattle.dom_base.specs.declared.NodeName.{NodeName}
use Rattle.dom_model.specs.Groups.{KeepsMakers, group_world}
use Rattle.dom_model.specs.Listeners.{Visit}
use Rattle.dom_model.specs.Names.{name_eq, owner_eq, is_in}
use Rattle.dom_model.specs.PageMachine.{page_of}
use Rattle.dom_model.specs.Trace.{is_page}
use Rattle.dom_model.specs.World.{World, part_of}
use Rattle.dom_worlds.specs.Tables.{IsWhole}
use Rattle.dom_worlds.specs.Worlds.{IsOf, IsWorld, HasKinds, HasOwners}
use Rattle.dom_live.specs.Lines.{LiveLine, said, listen_live, observer_live, micro_live, LiveRun, still, and_then}
use Rattle.dom_live.specs.Frames.{Visiting, UnderWay, Frame, an_event, a_notification, event_caller}
use Rattle.dom_live.specs.Documents.{Documents, Live, world_documents, silent_documents, page_documents}
use Rattle.dom_live.specs.SmallSteps.{advance}
use Rattle.dom_live.specs.Groups.{own_live, own_run, own_outputs, is_own_step}
use Rattle.dom_live.specs.Machine.{taken, ending, live_finish, live_lines, live_run}
use Rattle.dom_live.specs.Documents.{at_rest}
use Rattle.dom_live.specs.Things.{line_thing, live_trace, whole_trace}
use Rattle.dom_model.specs.DocumentMachine.{first_world}
use Rattle.dom_model.specs.PageMachine.{first_page}
use Rattle.std.specs.Prelude.{map}
use Rattle.dom_live.specs.Runs.{going, gone, is_resting, ran}
use Rattle.dom_live.specs.Things.{told_next, done_if, told_run, steps_traced, no_things}

-- a visit is at one of the nodes
abbrev pub IsVisitAt : List NodeName → Visit NodeName → Type 0
IsVisitAt nodes v = IsTrue (is_in name_eq v.current nodes)

-- the owner who is called knows that the event is cancelled
abbrev pub IsAware : UnderWay → Option Owner → Type 0
IsAware u None = Unit {0}
IsAware u (Some o) = u.cancelled ≡ true → IsTrue (is_in owner_eq o u.knowing)

-- Each visit that is made or to come is at a node that the event visits; nobody knows an event to be cancelled that is not; and if it is, whoever is
-- called knows it.
pub record IsEvent (u : UnderWay) : Type 0 where
  pub visits : AllByRecursion (IsVisitAt u.nodes) u.visits
  pub visiting : AllByRecursion (λ (v : Visiting). IsVisitAt u.nodes v.visit) (option_to_list u.visiting)
  pub knowing : u.cancelled ≡ false → u.knowing ≡ []
  pub aware : IsAware u (event_caller u.visiting)

-- the slots of a notification are its owner's
abbrev pub IsFrame : Frame → Type 0
IsFrame (an_event u) = IsEvent u
IsFrame (a_notification n) = AllByRecursion (IsOf n.owner) n.slots
IsFrame f = Unit {0}

-- A world as the document machine reaches it, in whose tasks the page may have its own whenever others act.
abbrev pub IsLiveWorld : World → Type 0
IsLiveWorld w = IsWorld (record w { turn = Some Page })

-- The nodes' kinds, the owners who are there, and what the tables name are so, whatever tasks wait, and whosever turn is open.
pub record IsLiveWhole (w : World) : Type 0 where
  pub kinds : (o : Owner) → HasKinds (part_of w o)
  pub owners : HasOwners (record w { tasks = []; turn = None })
  pub whole : IsWhole w

-- Live documents as the machine reaches them.
pub record IsLive (s : Live World) : Type 0 where
  pub world : IsLiveWorld s.documents
  pub whole : IsLiveWhole s.documents
  pub frames : AllByRecursion IsFrame s.frames

-- Small steps keep that.
abbrev pub StepsKeep : Type 0
StepsKeep = (n : ℕ) (s : Live World) → IsLive s → IsLive (gone world_documents n s)

-- What a line or the end of input sets going comes to its end: after it a call is under way and waits, or nothing is.
abbrev pub RunsEnd : Type 0
RunsEnd = (s : Live World) → IsTrue (is_resting (ran world_documents s).0)

-- At the end of input no call waits: after it nothing is under way.
abbrev pub InputEnds : Type 0
InputEnds = (s : Live World) → (live_finish world_documents s).0.frames ≡ []

-- whether a line makes nothing live
abbrev pub makes_nothing_live : LiveLine → Bool
makes_nothing_live (said o (listen_live x w)) = false
makes_nothing_live (said o observer_live) = false
makes_nothing_live (said o (micro_live label)) = false
makes_nothing_live l = true

-- Where no line makes anything live nobody is called: behind each line nothing is under way, as in the line protocol.
abbrev pub NothingWaits : Type 0
NothingWaits =
    (ls : List LiveLine) → AllByRecursion (λ l. IsTrue (makes_nothing_live l)) ls → (live_lines world_documents (at_rest first_world) ls).0.frames ≡ []

module _ {L : Type 0} (read : L → LiveLine) where
  -- what one small step is to a group that has documents by `view`: what it tells, and then an own step, if it is one
  abbrev pub followed : {V : Type 0} → (Owner → Bool) → (World → V) → Documents V → Live World → LiveRun (Live V)
  followed group view d s =
      and_then (done_if d read (own_live group view s) (told_next group s s.frames))
      (λ t. if is_own_step group s.documents.tasks s.frames then advance d t else still t)

  -- One small step, as the page has it: that of the page machine, or none, with what it tells.
  abbrev pub PageStepAgrees : Type 0
  PageStepAgrees = (s : Live World) → IsLive s → own_run is_page page_of (advance world_documents s) ≡ followed is_page page_of page_documents s

  -- And as a group has it that keeps makers: that of the machine in which all others are silent, or none, with what it tells.
  abbrev pub GroupStepAgrees : Type 0
  GroupStepAgrees =
      (group : Owner → Bool) → KeepsMakers group → (s : Live World) → IsLive s →
      own_run group (group_world group) (advance world_documents s) ≡ followed group (group_world group) (silent_documents group) s

  -- What a group that has documents by `view` has of many small steps is what the machine does that is told their trace.
  abbrev pub StepsAgree : {V : Type 0} → (Owner → Bool) → (World → V) → Documents V → Type 0
  StepsAgree group view d =
      (n : ℕ) (s : Live World) → IsLive s →
      own_run group view (going world_documents n s) ≡ told_run d read (own_live group view s) (steps_traced group n s no_things)

  -- So it is of the page,
  abbrev pub PageStepsAgree : Type 0
  PageStepsAgree = StepsAgree is_page page_of page_documents

  -- and of each group that keeps makers.
  abbrev pub GroupStepsAgree : Type 0
  GroupStepsAgree = (group : Owner → Bool) → KeepsMakers group → StepsAgree group (group_world group) (silent_documents group)

-- Lines and the end of input keep what is asked of live documents, which holds of the first ones.
pub record LinesKeep : Type 0 where
  pub first : IsLive (at_rest first_world)
  pub line : (s : Live World) (l : LiveLine) → IsLive s → IsLive (taken world_documents s l).0
  pub ending : (s : Live World) → IsLive s → IsLive (ending s)

module _ {L : Type 0} (read : L → LiveLine) where
  -- What a group has by `view` of one line, up to what it sets going: the machine takes the group's own, and of others' it is told their outward events.
  abbrev pub LineAgrees : {V : Type 0} → (Owner → Bool) → (World → V) → Documents V → Type 0
  LineAgrees group view d =
      (s : Live World) → IsLive s → (l : L) →
      own_run group view (taken world_documents s (read l)) ≡ done_if d read (own_live group view s) (line_thing group read s l)

  -- Of a script: after each list of lines what it has is what the machine has that is told the trace, from these documents on, and so are its lines of
  -- output;
  abbrev pub LinesAgree : {V : Type 0} → (Owner → Bool) → (World → V) → Documents V → V → Type 0
  LinesAgree group view d first =
      (ls : List L) → own_run group view (live_lines world_documents (at_rest first_world) (map read ls))
      ≡ told_run d read (at_rest first) (live_trace group read ls)

  -- and so at the end of input.
  abbrev pub RunAgrees : {V : Type 0} → (Owner → Bool) → (World → V) → Documents V → V → Type 0
  RunAgrees group view d first =
      (ls : List L) → own_run group view (live_run world_documents (at_rest first_world) (map read ls))
      ≡ told_run d read (at_rest first) (whole_trace group read ls)

  -- Two scripts with equal traces for a group have equal output of it.
  abbrev pub SameOutput : (Owner → Bool) → Type 0
  SameOutput group =
      (ls ms : List L) → whole_trace group read ls ≡ whole_trace group read ms →
      own_outputs group (live_run world_documents (at_rest first_world) (map read ls)).1
      ≡ own_outputs group (live_run world_documents (at_rest first_world) (map read ms)).1

  -- One line, as the page has it.
  abbrev pub PageLineAgrees : Type 0
  PageLineAgrees = LineAgrees is_page page_of page_documents

  -- A script: after each list of lines the page's part, its tasks, and what is live and under way of it are the page machine's, and so are its lines
  -- of output;
  abbrev pub PageLinesAgree : Type 0
  PageLinesAgree = LinesAgree is_page page_of page_documents first_page

  -- and so at the end of input.
  abbrev pub PageRunAgrees : Type 0
  PageRunAgrees = RunAgrees is_page page_of page_documents first_page

  -- Two scripts with equal traces for the page have equal output of it.
  abbrev pub SamePage : Type 0
  SamePage = SameOutput is_page

  -- So it is of each group that keeps makers: one line,
  abbrev pub GroupLineAgrees : Type 0
  GroupLineAgrees = (group : Owner → Bool) → KeepsMakers group → LineAgrees group (group_world group) (silent_documents group)

  -- a script, of which the run in which all others are silent begins with the first world,
  abbrev pub GroupLinesAgree : Type 0
  GroupLinesAgree = (group : Owner → Bool) → KeepsMakers group → LinesAgree group (group_world group) (silent_documents group) first_world

  -- a script and its end,
  abbrev pub GroupRunAgrees : Type 0
  GroupRunAgrees = (group : Owner → Bool) → KeepsMakers group → RunAgrees group (group_world group) (silent_documents group) first_world

  -- and two scripts with equal traces for it.
  abbrev pub SameGroup : Type 0
  SameGroup = (group : Owner → Bool) → KeepsMakers group → SameOutput group
