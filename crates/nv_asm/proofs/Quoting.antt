-- Texts in quotes and comments, byte by byte.
use Rattle.std.proofs.Common.{◌≡◌, ℕ, ◌+◌, ◌<◌, ◌≤◌, Bool, true, false, List, [], ◌∷◌, ◌++◌, Option, Some, None, option_map, length, drop, get_or, refl, ap, ◌∙◌, append_assoc}
use Rattle.std.proofs.lemmas.List.{at_drop_more, at_drop_all}
use Rattle.nv_asm.specs.declared.strings.Where.{Where}
use Rattle.nv_asm.specs.declared.strings.Mark.TheVariants.{Stands, Escapes, Ends, Wrong}
use Rattle.nv_asm.specs.Strings.{next, comment_place, mark, quoted, at_end}

at_next : (w : Where) (b : ℕ) (bs : List ℕ) (v : Option Where) → next w b ≡ v → comment_place w (b ∷ bs) ≡ elim v [ Some x ↦ 1 + comment_place x bs | None ↦ 0 ]
unfolding comment_place
at_next w b bs v e = ap (λ (v : Option Where). elim v as (λ _. ℕ) [ Some x ↦ 1 + comment_place x bs | None ↦ 0 ]) e

pub comment-more : (w v : Where) (bs : List ℕ) (i : ℕ) → i < length bs → next w (get_or bs i 0) ≡ Some v → comment_place w (drop i bs) ≡ 1 + comment_place v (drop (i + 1) bs)
comment-more w v bs i h e = at_drop_more (comment_place w) bs i 0 h ∙ at_next w (get_or bs i 0) (drop (i + 1) bs) (Some v) e

pub comment-stop : (w : Where) (bs : List ℕ) (i : ℕ) → i < length bs → next w (get_or bs i 0) ≡ None → comment_place w (drop i bs) ≡ 0
comment-stop w bs i h e = at_drop_more (comment_place w) bs i 0 h ∙ at_next w (get_or bs i 0) (drop (i + 1) bs) None e

pub comment-end : (w : Where) (bs : List ℕ) (i : ℕ) → length bs ≤ i → comment_place w (drop i bs) ≡ 0
unfolding comment_place
comment-end w bs i h = at_drop_all (comment_place w) bs i h

stands : (x : Bool) (b c : ℕ) (bs : List ℕ) → mark x b ≡ Stands c → quoted x (b ∷ bs) ≡ option_map (λ cs. c ∷ cs) (quoted false bs)
unfolding quoted
stands x b c bs e = rw (e, quoted) refl

escapes : (x : Bool) (b : ℕ) (bs : List ℕ) → mark x b ≡ Escapes → quoted x (b ∷ bs) ≡ quoted true bs
unfolding quoted
escapes x b bs e = rw (e, quoted) refl

ends : (x : Bool) (b : ℕ) (bs : List ℕ) → mark x b ≡ Ends → quoted x (b ∷ bs) ≡ at_end bs
unfolding quoted
ends x b bs e = rw (e, quoted) refl

wrong : (x : Bool) (b : ℕ) (bs : List ℕ) → mark x b ≡ Wrong → quoted x (b ∷ bs) ≡ None
unfolding quoted
wrong x b bs e = rw (e, quoted) refl

joined : (before : List ℕ) (c : ℕ) (more : Option (List ℕ)) → option_map (λ m. before ++ m) (option_map (λ m. c ∷ m) more) ≡ option_map (λ m. (before ++ c ∷ []) ++ m) more
joined before c None = refl
joined before c (Some more) = ap Some (rw append_assoc refl)

pub quoted-stands : (before : List ℕ) (x : Bool) (bs : List ℕ) (i c : ℕ) → i < length bs → mark x (get_or bs i 0) ≡ Stands c
    → option_map (λ m. before ++ m) (quoted x (drop i bs)) ≡ option_map (λ m. (before ++ c ∷ []) ++ m) (quoted false (drop (i + 1) bs))
quoted-stands before x bs i c h e =
    ap (option_map (λ m. before ++ m)) (at_drop_more (quoted x) bs i 0 h ∙ stands x (get_or bs i 0) c (drop (i + 1) bs) e) ∙ joined before c (quoted false (drop (i + 1) bs))

pub quoted-escapes : (x : Bool) (bs : List ℕ) (i : ℕ) → i < length bs → mark x (get_or bs i 0) ≡ Escapes → quoted x (drop i bs) ≡ quoted true (drop (i + 1) bs)
quoted-escapes x bs i h e = at_drop_more (quoted x) bs i 0 h ∙ escapes x (get_or bs i 0) (drop (i + 1) bs) e

pub quoted-ends : (x : Bool) (bs : List ℕ) (i : ℕ) → i < length bs → mark x (get_or bs i 0) ≡ Ends → quoted x (drop i bs) ≡ at_end (drop (i + 1) bs)
quoted-ends x bs i h e = at_drop_more (quoted x) bs i 0 h ∙ ends x (get_or bs i 0) (drop (i + 1) bs) e

pub quoted-wrong : (x : Bool) (bs : List ℕ) (i : ℕ) → i < length bs → mark x (get_or bs i 0) ≡ Wrong → quoted x (drop i bs) ≡ None
quoted-wrong x bs i h e = at_drop_more (quoted x) bs i 0 h ∙ wrong x (get_or bs i 0) (drop (i + 1) bs) e

pub quoted-none : (x : Bool) (bs : List ℕ) (i : ℕ) → length bs ≤ i → quoted x (drop i bs) ≡ None
unfolding quoted
quoted-none x bs i h = at_drop_all (quoted x) bs i h

pub at_end-none : (bs : List ℕ) (i : ℕ) → length bs ≤ i → at_end (drop i bs) ≡ Some []
at_end-none bs i h = at_drop_all at_end bs i h

pub at_end-some : (bs : List ℕ) (i : ℕ) → i < length bs → at_end (drop i bs) ≡ None
at_end-some bs i h = at_drop_more at_end bs i 0 h
