-- The views of frames have nothing that stands for the theorem alone.
use Rattle.dom_base.proofs.Std.{◌≡◌, List, [], ◌∷◌, map, refl, ap, ap₂}
use Rattle.dom_base.specs.declared.Owner.{Owner}
use Rattle.dom_model.specs.World.{World}
use Rattle.dom_live.specs.Documents.{Live}
use Rattle.dom_live.specs.Frames as live
use Rattle.dom_worlds.proofs.ListLemmas.{either_way}
use Rattle.dom_callbacks.specs.declared.frames.Frame.{Frame}
use Rattle.dom_callbacks.specs.declared.frames.Frame.TheVariants as frames
use Rattle.dom_callbacks.specs.declared.state.LiveState.{LiveState}
use Rattle.dom_callbacks.specs.Views.{frame_view}
use Rattle.dom_callbacks.specs.Bare.{bare_event, bare_frame, bare}
use Rattle.dom_callbacks.specs.States.{live_of}

-- a frame
pub bare-view : (f : Frame) → bare_frame (frame_view f) ≡ frame_view f
bare-view (frames.Event u) = refl
bare-view (frames.Notification n) = refl
bare-view (frames.Microtask o) = refl
bare-view (frames.Checkpoint c) = refl

-- frames
pub bare-views : (fs : List Frame) → map bare_frame (map frame_view fs) ≡ map frame_view fs
bare-views [] = refl
bare-views (f ∷ fs) = ap₂ (λ g gs. g ∷ gs) (bare-view f) (bare-views fs)

-- the state with other frames
abbrev with_frames : {S : Type 0} → Live S → List live.Frame → Live S
with_frames s fs = record s { frames = fs }

-- a state
pub bare-state : {S : Type 0} (world : S → World) (s : LiveState S) → bare (live_of world s) ≡ live_of world s
bare-state world s = ap (with_frames (live_of world s)) (bare-views s.frames.items)

-- who is told of an event does not count
pub bare-told : (o : Owner) (u : live.UnderWay) → bare_event (live.told_to o u) ≡ bare_event u
bare-told o u = either_way (λ t. bare_event t ≡ bare_event u) u.cancelled (live.known_by o u) u refl refl
