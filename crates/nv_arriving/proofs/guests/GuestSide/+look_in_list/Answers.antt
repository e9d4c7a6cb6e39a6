use Rattle.std.proofs.Common.{◌≡◌, ◌∙◌, sym, ap, ◌+◌, ◌-◌, ◌++◌, ℕ, [], ◌∷◌, List, slice_index_or, append_assoc}
use Rattle.std.specs.Int.{to_le_bytes, w16}
use Rattle.std.specs.List.{range_with_len}
use Rattle.nv_calls.specs.Calls.{Request, request}
use Rattle.nv_arriving.specs.Polling.{looked_at, told_of, told_in}
use Rattle.nv_arriving.specs.Standings.{Standing}
use Rattle.nv_arriving.specs.Views.{standing_of}
use Rattle.nv_arriving.proofs.LaterLaws.{told_first}
use Rattle.nv_arriving.proofs.guests.GuestSide.+look_in_list.Goals as goal

pub returns-clause-told : goal.returns-clause-told
returns-clause-told t c =
    let s : Standing = standing_of c.args.self.now in
    let r : Request = request c.args.call.now in
    let before : List ℕ = c.args.looked.now.told.items in
    let first : List ℕ = to_le_bytes w16 (told_of s (looked_at r c.args.place)) in
    let rest : List ℕ = told_in s r (range_with_len (c.args.place + 1) (c.args.left - 1)) in
    let told : c.told_of-told.result ≡ told_of s (looked_at r c.args.place)
    = c.told_of-told.ensures ∙ ap (told_of s) c.at.ensures in
    let two : slice_index_or c.to_le_bytes.result 0 0 ∷ slice_index_or c.to_le_bytes.result 1 0 ∷ [] ≡ first
    = ap (λ (l : List ℕ). slice_index_or l 0 0 ∷ slice_index_or l 1 0 ∷ []) c.to_le_bytes.ensures ∙ ap (to_le_bytes w16) told in
    c.look_in_list.ensures.told
    ∙ (ap (λ (z : List ℕ). z ++ rest) (c.append.ensures ∙ ap (λ (z : List ℕ). before ++ z) two)
    ∙ (append_assoc before first rest
    ∙ ap (λ (z : List ℕ). before ++ z) (sym (told_first s r c.args.place c.args.left c.if-left-eq0.false))))
