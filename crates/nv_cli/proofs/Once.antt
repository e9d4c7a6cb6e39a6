-- Where no length is planned a version leads at most once.
use Rattle.std.proofs.Common.{◌≡◌, ◌∙◌, ap, sym, subst, ℕ, ◌+◌, ◌≤◌, Bool, true, false, List, [], ◌∷◌, Option, length, arith}
use Rattle.nv_calls.specs.Calls.{Entry}
use Rattle.nv_calls.specs.Logs.{Start}
use Rattle.nv_threads.specs.Behaviours.{Behaviour, IsProcess}
use Rattle.nv_replay.specs.declared.standing.Standing.{Standing}
use Rattle.nv_replay.specs.Follow.{Follower, Judge}
use Rattle.nv_replay.specs.Sequence.{Account, leads, turn, sequence_from}
use Rattle.nv_replay.specs.Sequence as plain
use Rattle.nv_replay.specs.Monitor.{sequence}
use Rattle.nv_replay.specs.Account.{AreSettled}
use Rattle.nv_replay.specs.Covers.{AreEnded}
use Rattle.nv_replay.proofs.Unplanned.{no_hands}

abbrev EachOnce : List Standing → Type 0
EachOnce [] = Unit {0}
EachOnce (line ∷ lines) = (length line.led ≤ 1) × EachOnce lines

settled_from : (lines : List Standing) → AreEnded lines → EachOnce lines → AreSettled lines
settled_from [] ended once = tt
settled_from (line ∷ lines) ended once = (record { fated = ended.0; span = once.0 }, settled_from lines ended.1 once.1)

module _ {P : Type 0} (g : Behaviour P) (judges : ℕ → Judge) (start : Start) (most : ℕ) (cuts : ℕ → Option ℕ) where
  turn_once : (i : ℕ) (p : P) (others : List Entry → Bool → Account) (log : List Entry) (over : Bool) (f : Follower P) (x : Bool)
      → ((l : List Entry) (o : Bool) → EachOnce (others l o).lines) → EachOnce (turn g judges start most cuts i p others log over f x).lines
  turn_once i p others log over f true once = (omega arith, once _ _)
  turn_once i p others log over f false once = (omega arith, once log over)

  once_from : (ps : List P) (i : ℕ) (log : List Entry) (over : Bool) → EachOnce (sequence_from g judges start most cuts ps i log over).lines
  unfolding sequence_from
  once_from [] i log over = tt
  once_from (p ∷ ps) i log over =
      turn_once i p (λ l o. sequence_from g judges start most cuts ps (i + 1) l o) log over (plain.followed_by g judges start most cuts log i p)
      (leads over (plain.followed_by g judges start most cuts log i p))
      (once_from ps (i + 1))

  -- the account of a run without planned lengths
  pub settled_unplanned : IsProcess g → (hands : List ℕ) (ps : List P) (account : Account) → account ≡ sequence g judges start most cuts hands ps → AreEnded account.lines → hands ≡ [] → AreSettled account.lines
  settled_unplanned laws hands ps account is ended none =
      let same : account ≡ plain.plain_sequence g judges start most cuts ps = is ∙ ap (λ (h : List ℕ). sequence g judges start most cuts h ps) none ∙ no_hands g laws judges start most cuts ps in
      settled_from account.lines ended (subst (λ (a : Account). EachOnce a.lines) (sym same) (once_from ps 0 [] false))
