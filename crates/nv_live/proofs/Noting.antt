-- How the writing of texts goes on, and the lines of arrivals with one more.
use Rattle.std.proofs.Common.{◌≡◌, ℕ, List, [], ◌∷◌, ◌++◌, Option, Ok, Err, IsOk, IsErr, codes, append-nil, append_assoc, sym, ap, refl, ◌∙◌}
use Rattle.std.proofs.lemmas.List.Concat.{flat_map-append}
use Rattle.nv_script.specs.Arrivals.{Arrival}
use Rattle.nv_script.specs.Writing.{line_text}
use Rattle.nv_outside.specs.Sink.{Put, Puts}
use Rattle.nv_outside.proofs.Writing.{puts-is, puts-then, puts-failed}
use Rattle.nv_live.specs.declared.writer.Writer.{Writer}
use Rattle.nv_live.specs.Transcript.{lines_of}
use Rattle.nv_live.specs.Writer.{WritesOn}

-- the same text in other words
pub writes-is : {S : Type 0} (told : S → Option (List ℕ)) (faults : S → ℕ) (old new : Writer S) (x y : List ℕ) → x ≡ y → WritesOn told faults old new x → WritesOn told faults old new y
writes-is told faults old new x y e w = λ first earlier so_far. puts-is (ap (λ t. earlier ++ t) e) (w first earlier so_far)

pub one_line : (arrival : Arrival) (text : List ℕ) → text ≡ line_text arrival ++ codes "\n" → text ≡ lines_of (arrival ∷ [])
one_line arrival text is = is ∙ sym (append-nil (line_text arrival ++ codes "\n"))

pub lines-append : (xs ys : List Arrival) → lines_of (xs ++ ys) ≡ lines_of xs ++ lines_of ys
lines-append xs ys = flat_map-append (λ arrival. line_text arrival ++ codes "\n") xs ys

-- nothing more
pub writes-none : {S : Type 0} (told : S → Option (List ℕ)) (faults : S → ℕ) (writer : Writer S) → WritesOn told faults writer writer []
writes-none told faults writer = λ first earlier so_far. puts-is (sym (append-nil earlier)) so_far

-- one text after another
pub writes-then : {S : Type 0} (told : S → Option (List ℕ)) (faults : S → ℕ) (a b c : Writer S) (x y : List ℕ) → WritesOn told faults a b x → WritesOn told faults b c y → WritesOn told faults a c (x ++ y)
writes-then told faults a b c x y p q = λ first earlier so_far. puts-is (append_assoc earlier x y) (q first (earlier ++ x) (p first earlier so_far))

-- where no write has failed a text is written after what was
pub puts-after_whole : {a b c : Option (List ℕ)} {f g h : ℕ} {x y : List ℕ} {first put : Put} → IsOk first → Puts a f x first b g → Puts b g y put c h → Puts a f (x ++ y) put c h
puts-after_whole {first = Ok _} whole p q = puts-then p q
puts-after_whole {first = Err _} whole p q = cc

-- and where one has, no more is written
pub puts-after_failed : {a b : Option (List ℕ)} {f g : ℕ} {x : List ℕ} {put : Put} (y : List ℕ) → IsErr put → Puts a f x put b g → Puts a f (x ++ y) put b g
puts-after_failed {put = Ok _} y failed p = cc
puts-after_failed {put = Err _} y failed p = puts-failed y refl p
