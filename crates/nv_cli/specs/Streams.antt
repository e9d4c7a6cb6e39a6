-- The streams of a live run, as what they tell.
use Rattle.std.specs.Prelude.{ℕ, List, Option}
use Rattle.nv_live.specs.Source.{Moment}
use Rattle.nv_live.specs.declared.streams.Streams.{Streams as Held}
use Rattle.nv_driver.specs.Live.{Streams}
use Rattle.nv_driver.specs.declared.ending.Ending.{Ending}

module _ {I O T : Type 0} (took : I → Option (List (List ℕ))) (unread : I → ℕ) (moments : I → Option (List Moment)) (said : O → Option (List ℕ)) (unsaid : O → ℕ) (noted : T → Option (List ℕ)) (unnoted : T → ℕ) where
  -- what the three tell
  abbrev pub streams_of : Held I O T → Streams
  streams_of held = record {
    read = took held.input;
    unread = unread held.input;
    moments = moments held.input;
    said = said held.output;
    unsaid = unsaid held.output;
    noted = noted held.transcript;
    unnoted = unnoted held.transcript;
  }

  -- what those tell that a call gives back, and how a live run over them ended
  abbrev pub left_of : Held I O T × Ending → Streams × Ending
  left_of left = (streams_of left.0, left.1)
