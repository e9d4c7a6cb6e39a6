-- How what comes as lines goes on: one more read, bytes of a line, and a whole line.
use Rattle.std.proofs.Common.{◌≡◌, ℕ, suc, ◌+◌, ◌<◌, ◌==◌, ◌||◌, not, Bool, true, false, cond, List, [], ◌∷◌, ◌++◌, Option, None, Some, Ok, codes, length, map, filter, take, drop, get_or, append-nil, length-drop, drop-cons, add-one, append_assoc, length-append, refl, sym, ap, subst, ◌∙◌, arith}
use Rattle.std.specs.List.{concat, count_by, list_all, list_any, prefix_len}
use Rattle.std.proofs.lemmas.Bool.{and_parts, and_from, or_parts}
use Rattle.std.proofs.lemmas.Bool.Decides.{nat_tests}
use Rattle.std.proofs.Math.Bool.{or-false}
use Rattle.std.proofs.lemmas.List.{map-append, nil_from_length, take-append-drop}
use Rattle.std.proofs.lemmas.List.Concat.{flat_map-append}
use Rattle.std.proofs.lemmas.List.Elements.{filter-append}
use Rattle.std.proofs.lemmas.List.Sums.{prefix_len_stops, sum_by-append, sum_by-cons}
use Rattle.std.proofs.lemmas.List.Folds.{list_all-append, list_any-append, concat-append}
use Rattle.nv_script.specs.declared.arrival.ArrivalCause.{ArrivalCause}
use Rattle.nv_script.specs.Arrivals.{Arrival, is_arrival}
use Rattle.nv_script.specs.Order.{Came, most_clients, nothing_came, admitted, after}
use Rattle.nv_script.specs.Reading.{arrival_of}
use Rattle.nv_script.proofs.Orderly.{after-none, after-more}
use Rattle.nv_outside.specs.Counts.{raised}
use Rattle.nv_live.specs.declared.source.Read.{Read}
use Rattle.nv_live.specs.declared.source.Read.TheVariants.{Count, Failed}
use Rattle.nv_live.specs.declared.incoming.Stopped.{Stopped}
use Rattle.nv_live.specs.declared.incoming.Stopped.TheVariants.{Ended, Refused, CutOff}
use Rattle.nv_bytes.specs.Lines.{line_number}
use Rattle.nv_live.specs.Buffer.{Refills}
use Rattle.nv_live.specs.ComingLines.{is_plain, is_comment, is_hand, is_passed, says, text_of, Say, stop_by_end, IsRefused, StopsAt, Come}
use Rattle.nv_live.specs.Source.{Gave, faults_by_read}
use Rattle.nv_live.specs.Taking.{faults_by_stop}
use Rattle.nv_live.proofs.Taking.{gave-none, gave-then}

-- ---- nothing has come

come-none : (before : Option (List (List ℕ))) (faults : ℕ) → Come before before faults faults None [] [] (nothing_came (most_clients true)) 0 false 0 []
come-none before faults = record {
  reads = [];
  lines = [];
  gave = gave-none before;
  joined = refl;
  plain = refl;
  said = refl;
  limits = refl;
  orderly = after-none (nothing_came (most_clients true));
  numbered = refl;
  earlier = [];
  since = [];
  parted = refl;
  words = omega arith;
  asks = refl;
  counted = refl;
  stops = tt;
  ended = λ e. cc;
}

pub come-start : (before : Option (List (List ℕ))) (faults : ℕ) (line held : List ℕ) (came : Came) → line ≡ [] → held ≡ [] → came ≡ nothing_came (most_clients true) → Come before before faults faults None line held came 0 false 0 []
come-start before faults line held came empty none order =
    subst (λ l. Come before before faults faults None l held came 0 false 0 []) (sym empty)
    (subst (λ h. Come before before faults faults None [] h came 0 false 0 []) (sym none)
    (subst (λ c. Come before before faults faults None [] [] c 0 false 0 []) (sym order) (come-none before faults)))

-- ---- one more read

end-empty : (n taken size : ℕ) → stop_by_end (Count n) taken size ≡ Some Ended → (n ≡ 0) × (size ≡ 0)
end-empty n taken size e = step (n == 0) (size == 0) refl refl e where
  step : (x y : Bool) → (n == 0) ≡ x → (size == 0) ≡ y → cond x (cond y (Some Ended) (Some (CutOff (line_number taken)))) None ≡ Some Ended → (n ≡ 0) × (size ≡ 0)
  step true true h k e = (grind (arith, nat_tests), grind (arith, nat_tests))
  step true false h k e = cc
  step false y h k e = cc

end-stops : (n taken : ℕ) (line held : List ℕ) (came : Came) → length held ≡ n → StopsAt (stop_by_end (Count n) taken (length line)) line held came taken
end-stops n taken line held came many = step (n == 0) (length line == 0) refl refl where
  step : (x y : Bool) → (n == 0) ≡ x → (length line == 0) ≡ y → StopsAt (cond x (cond y (Some Ended) (Some (CutOff (line_number taken)))) None) line held came taken
  step true true e f = tt
  step true false e f =
      let none : n ≡ 0 = grind (arith, nat_tests) in
      let some : 0 < length line = grind (arith, nat_tests) in
      (refl, some, nil_from_length held (many ∙ none))
  step false y e f = tt

end-faults : (n taken size faults : ℕ) → faults_by_stop (stop_by_end (Count n) taken size) faults ≡ faults
end-faults n taken size faults = step (n == 0) (size == 0) where
  step : (x y : Bool) → faults_by_stop (cond x (cond y (Some Ended) (Some (CutOff (line_number taken)))) None) faults ≡ faults
  step true true = refl
  step true false = refl
  step false y = refl

joined-read : (reads : List (List ℕ)) (text line held : List ℕ) → concat reads ≡ text ++ (line ++ []) → concat (reads ++ held ∷ []) ≡ text ++ (line ++ held)
joined-read reads text line held e =
    concat-append reads (held ∷ []) ∙ ap (λ t. concat reads ++ t) (append-nil held) ∙ ap (λ t. t ++ held) (e ∙ ap (λ t. text ++ t) (append-nil line)) ∙ append_assoc text line held

come-refill : (before now later : Option (List (List ℕ))) (faults count later_count : ℕ) (line held : List ℕ) (came : Came) (taken : ℕ) (asked : Bool) (handed : ℕ) (read : Read) (arrivals : List Arrival)
    → Refills now later held read → later_count ≡ faults_by_read read count → Come before now faults count None line [] came taken asked handed arrivals
    → Come before later faults later_count (stop_by_end read taken (length line)) line held came taken asked handed arrivals
come-refill before now later faults count later_count line held came taken asked handed (Count n) arrivals r same c = record {
  reads = c.reads ++ held ∷ [];
  lines = c.lines;
  gave = gave-then before now later c.reads (held ∷ []) c.gave r.1;
  joined = joined-read c.reads (text_of c.lines) line held c.joined;
  plain = c.plain;
  said = c.said;
  limits = c.limits;
  orderly = c.orderly;
  numbered = c.numbered;
  earlier = c.earlier;
  since = c.since;
  parted = c.parted;
  words = c.words;
  asks = c.asks;
  counted = same ∙ c.counted ∙ sym (end-faults n taken (length line) faults);
  stops = end-stops n taken line held came (sym r.0);
  ended = λ e.
      let both = end-empty n taken (length line) e in
      let none : held ≡ [] = nil_from_length held (sym r.0 ∙ both.0) in
      let empty : line ≡ [] = nil_from_length line both.1 in
      ((c.reads, ap (λ b. c.reads ++ b ∷ []) none), ap (λ l. l ++ held) empty ∙ none);
}
come-refill before now later faults count later_count line held came taken asked handed Failed arrivals r same c = record {
  reads = c.reads;
  lines = c.lines;
  gave = subst (λ x. Gave before c.reads x) (sym r.0) c.gave;
  joined = c.joined ∙ ap (λ h. text_of c.lines ++ (line ++ h)) (sym r.1);
  plain = c.plain;
  said = c.said;
  limits = c.limits;
  orderly = c.orderly;
  numbered = c.numbered;
  earlier = c.earlier;
  since = c.since;
  parted = c.parted;
  words = c.words;
  asks = c.asks;
  counted = same ∙ ap (λ n. raised n 1) c.counted;
  stops = r.1;
  ended = λ e. cc;
}

pub come-read : (before now later : Option (List (List ℕ))) (faults count later_count : ℕ) (stopped next : Option Stopped) (line was held : List ℕ) (came : Came) (taken size : ℕ) (asked : Bool) (handed : ℕ) (read : Read) (arrivals : List Arrival)
    → Refills now later held read → later_count ≡ faults_by_read read count → stopped ≡ None → was ≡ [] → size ≡ length line → next ≡ stop_by_end read taken size
    → Come before now faults count stopped line was came taken asked handed arrivals → Come before later faults later_count next line held came taken asked handed arrivals
come-read before now later faults count later_count stopped next line was held came taken size asked handed read arrivals r same going empty sized stop c =
    subst (λ s. Come before later faults later_count s line held came taken asked handed arrivals) (sym (stop ∙ ap (stop_by_end read taken) sized))
    (come-refill before now later faults count later_count line held came taken asked handed read arrivals r same
    (subst (λ s. Come before now faults count s line [] came taken asked handed arrivals) going (subst (λ h. Come before now faults count stopped line h came taken asked handed arrivals) empty c)))

-- ---- bytes of a line

plain-prefix : (bytes : List ℕ) → list_all is_plain (take (prefix_len is_plain bytes) bytes) ≡ true
plain-prefix [] = refl
plain-prefix (b ∷ bs) = step (is_plain b) refl (plain-prefix bs) where
  step : (x : Bool) → is_plain b ≡ x → list_all is_plain (take (prefix_len is_plain bs) bs) ≡ true → list_all is_plain (take (cond x (1 + prefix_len is_plain bs) 0) (b ∷ bs)) ≡ true
  step true e later =
      let one : suc (prefix_len is_plain bs) ≡ 1 + prefix_len is_plain bs = omega arith in
      subst (λ k. list_all is_plain (take k (b ∷ bs)) ≡ true) one (and_from (is_plain b) (list_all is_plain (take (prefix_len is_plain bs) bs)) e later)
  step false e later = refl

front-plain : (bytes : List ℕ) (n : ℕ) → n ≡ prefix_len is_plain bytes → list_all is_plain (take n bytes) ≡ true
front-plain bytes n e = subst (λ k. list_all is_plain (take k bytes) ≡ true) (sym e) (plain-prefix bytes)

pub come-gather : (before now : Option (List (List ℕ))) (faults count : ℕ) (stopped : Option Stopped) (line held more rest : List ℕ) (came : Came) (taken n : ℕ) (asked : Bool) (handed : ℕ) (arrivals : List Arrival)
    → stopped ≡ None → n ≡ prefix_len is_plain held → more ≡ line ++ take n held → rest ≡ drop n held
    → Come before now faults count stopped line held came taken asked handed arrivals → Come before now faults count stopped more rest came taken asked handed arrivals
come-gather before now faults count stopped line held more rest came taken n asked handed arrivals going stops longer left c =
    let same : more ++ rest ≡ line ++ held =
    ap (λ t. t ++ rest) longer ∙ ap (λ t. (line ++ take n held) ++ t) left ∙ append_assoc line (take n held) (drop n held) ∙ ap (λ t. line ++ t) (take-append-drop n held) in
    let both = and_parts (list_all (λ l. list_all is_plain l) c.lines) (list_all (λ l. list_all is_plain l) (line ∷ [])) (sym (list_all-append (λ l. list_all is_plain l) c.lines (line ∷ [])) ∙ c.plain) in
    let old = and_parts (list_all is_plain line) true both.1 in
    let whole : list_all is_plain more ≡ true = ap (list_all is_plain) longer ∙ list_all-append is_plain line (take n held) ∙ and_from (list_all is_plain line) (list_all is_plain (take n held)) old.0 (front-plain held n stops) in
    record {
      reads = c.reads;
      lines = c.lines;
      gave = c.gave;
      joined = c.joined ∙ ap (λ t. text_of c.lines ++ t) (sym same);
      plain = list_all-append (λ l. list_all is_plain l) c.lines (more ∷ []) ∙ and_from (list_all (λ l. list_all is_plain l) c.lines) (list_all (λ l. list_all is_plain l) (more ∷ [])) both.0 (and_from (list_all is_plain more) true whole refl);
      said = c.said;
      limits = c.limits;
      orderly = c.orderly;
      numbered = c.numbered;
      earlier = c.earlier;
      since = c.since;
      parted = c.parted;
      words = c.words;
      asks = c.asks;
      counted = c.counted;
      stops = subst (λ s. StopsAt s more rest came taken) (sym going) tt;
      ended = λ e. ((c.ended e).0, same ∙ (c.ended e).1);
    }

drop-at : (xs : List ℕ) (i d : ℕ) → i < length xs → drop i xs ≡ get_or xs i d ∷ drop (i + 1) xs
drop-at xs i d inside = rw (add-one, drop-cons xs i d)

pub newline-first : (held rest : List ℕ) (n : ℕ) → n ≡ prefix_len is_plain held → rest ≡ drop n held → 0 < length rest → (later : List ℕ) × (rest ≡ 10 ∷ later)
newline-first held rest n stops left some =
    let inside : n < length held = omega (arith, ap length left, length-drop n held) in
    let stop : is_plain (get_or held n 0) ≡ false = subst (λ k. is_plain (get_or held k 0) ≡ false) (sym stops) (prefix_len_stops is_plain held 0 (subst (λ k. k < length held) stops inside)) in
    let is : get_or held n 0 ≡ 10 = grind (arith, nat_tests) in
    (drop (n + 1) held, left ∙ drop-at held n 0 inside ∙ ap (λ b. b ∷ drop (n + 1) held) is)

-- ---- a whole line

joined-line : (lines : List (List ℕ)) (line rest : List ℕ) → text_of lines ++ (line ++ 10 ∷ rest) ≡ text_of (lines ++ line ∷ []) ++ ([] ++ rest)
joined-line lines line rest =
    ap (λ t. text_of lines ++ t) (sym (append_assoc line (10 ∷ []) rest)) ∙ sym (append_assoc (text_of lines) (line ++ 10 ∷ []) rest)
    ∙ ap (λ t. (text_of lines ++ t) ++ rest) (sym (append-nil (line ++ 10 ∷ [])))
    ∙ ap (λ t. t ++ rest) (sym (flat_map-append (λ l. l ++ codes "\n") lines (line ∷ [])))

-- one line more among those since
asks-more : (lines : List (List ℕ)) (line : List ℕ) (asked : Bool) → asked ≡ list_any is_hand lines → asked || is_hand line ≡ list_any is_hand (lines ++ line ∷ [])
asks-more lines line asked e =
    sym (list_any-append is_hand lines (line ∷ []) ∙ ap (λ x. list_any is_hand lines || x) (or-false (is_hand line)) ∙ ap (λ x. x || is_hand line) (sym e))

come-line : (before now : Option (List (List ℕ))) (faults count : ℕ) (line rest : List ℕ) (came next : Came) (taken : ℕ) (asked : Bool) (handed : ℕ) (arrivals then : List Arrival)
    → ((lines : List (List ℕ)) → Say lines arrivals → Say (lines ++ line ∷ []) then) → list_all is_arrival then ≡ true → (after arrivals (nothing_came (most_clients true)) ≡ Ok came → after then (nothing_came (most_clients true)) ≡ Ok next)
    → Come before now faults count None line (10 ∷ rest) came taken asked handed arrivals → Come before now faults count None [] rest next (taken + 1) (asked || is_hand line) handed then
come-line before now faults count line rest came next taken asked handed arrivals then says_on limits order c = record {
  reads = c.reads;
  lines = c.lines ++ line ∷ [];
  gave = c.gave;
  joined = c.joined ∙ joined-line c.lines line rest;
  plain = list_all-append (λ l. list_all is_plain l) (c.lines ++ line ∷ []) ([] ∷ []) ∙ and_from (list_all (λ l. list_all is_plain l) (c.lines ++ line ∷ [])) true c.plain refl;
  said = says_on c.lines c.said;
  limits = limits;
  orderly = order c.orderly;
  numbered = ap (λ n. n + 1) c.numbered ∙ sym (length-append c.lines (line ∷ []));
  earlier = c.earlier;
  since = c.since ++ line ∷ [];
  parted = ap (λ ls. ls ++ line ∷ []) c.parted ∙ append_assoc c.earlier c.since (line ∷ []);
  words = c.words;
  asks = asks-more c.since line asked c.asks;
  counted = c.counted;
  stops = tt;
  ended = λ e. cc;
}

say-nothing : (line : List ℕ) (lines : List (List ℕ)) (arrivals : List Arrival) → is_passed line ≡ true → Say lines arrivals → Say (lines ++ line ∷ []) arrivals
say-nothing line lines arrivals passed s =
    let none : filter says (line ∷ []) ≡ [] = ap (λ x. cond (not x) (line ∷ []) []) passed in
    ap (map arrival_of) (filter-append says lines (line ∷ []) ∙ ap (λ t. filter says lines ++ t) none ∙ append-nil (filter says lines)) ∙ s

say-one : (line : List ℕ) (lines : List (List ℕ)) (arrivals : List Arrival) (a : Arrival) → is_passed line ≡ false → arrival_of line ≡ Ok a → Say lines arrivals → Say (lines ++ line ∷ []) (arrivals ++ a ∷ [])
say-one line lines arrivals a says_some is s =
    let one : filter says (line ∷ []) ≡ line ∷ [] = ap (λ x. cond (not x) (line ∷ []) []) says_some in
    ap (map arrival_of) (filter-append says lines (line ∷ []) ∙ ap (λ t. filter says lines ++ t) one) ∙ map-append arrival_of (filter says lines) (line ∷ [])
    ∙ ap (λ t. t ++ arrival_of line ∷ []) s ∙ ap (λ r. map Ok arrivals ++ r ∷ []) is ∙ sym (map-append Ok arrivals (a ∷ []))

-- a line that says nothing is taken
pub come-passed : (before now : Option (List (List ℕ))) (faults count : ℕ) (stopped next : Option Stopped) (line held later rest : List ℕ) (came same : Came) (taken more : ℕ) (asked asks : Bool) (handed : ℕ) (arrivals : List Arrival)
    → (left : List ℕ) × (held ≡ 10 ∷ left) → is_passed line ≡ true → stopped ≡ None → next ≡ stopped → later ≡ [] → rest ≡ drop 1 held → same ≡ came → more ≡ taken + 1 → asks ≡ asked || is_hand line
    → Come before now faults count stopped line held came taken asked handed arrivals → Come before now faults count next later rest same more asks handed arrivals
come-passed before now faults count stopped next line held later rest came same taken more asked asks handed arrivals whole passed going stays empty left order number ask c =
    let begins : held ≡ 10 ∷ whole.0 = whole.1 in
    let behind : rest ≡ whole.0 = left ∙ ap (drop 1) begins in
    let from : Come before now faults count None line (10 ∷ whole.0) came taken asked handed arrivals =
    subst (λ s. Come before now faults count s line (10 ∷ whole.0) came taken asked handed arrivals) going (subst (λ h. Come before now faults count stopped line h came taken asked handed arrivals) begins c) in
    let to : Come before now faults count None [] whole.0 came (taken + 1) (asked || is_hand line) handed arrivals =
    come-line before now faults count line whole.0 came came taken asked handed arrivals arrivals (λ lines s. say-nothing line lines arrivals passed s) from.limits (λ e. e) from in
    subst (λ s. Come before now faults count s later rest same more asks handed arrivals) (sym (stays ∙ going))
    (subst (λ l. Come before now faults count None l rest same more asks handed arrivals) (sym empty)
    (subst (λ r. Come before now faults count None [] r same more asks handed arrivals) (sym behind)
    (subst (λ o. Come before now faults count None [] whole.0 o more asks handed arrivals) (sym order)
    (subst (λ n. Come before now faults count None [] whole.0 came n asks handed arrivals) (sym number)
    (subst (λ k. Come before now faults count None [] whole.0 came (taken + 1) k handed arrivals) (sym ask) to)))))

-- a line that says something is no `hand`
says-no_hand : (line : List ℕ) → is_passed line ≡ false → is_hand line ≡ false
says-no_hand line says_some = (or_parts (is_comment line) (is_hand line) says_some).1

-- a line's arrival is taken
pub come-taken : (before now : Option (List (List ℕ))) (faults count : ℕ) (stopped next : Option Stopped) (line held later rest : List ℕ) (came admits same : Came) (taken more : ℕ) (asked asks : Bool) (handed : ℕ) (arrivals : List Arrival) (a : Arrival)
    → (left : List ℕ) × (held ≡ 10 ∷ left) → is_passed line ≡ false → arrival_of line ≡ Ok a → is_arrival a ≡ true → Ok admits ≡ admitted a came
    → stopped ≡ None → next ≡ stopped → later ≡ [] → rest ≡ drop 1 held → same ≡ admits → more ≡ taken + 1 → asks ≡ asked
    → Come before now faults count stopped line held came taken asked handed arrivals → Come before now faults count next later rest same more asks handed (arrivals ++ a ∷ [])
come-taken before now faults count stopped next line held later rest came admits same taken more asked asks handed arrivals a whole says_some is limit may going stays empty left order number ask c =
    let begins : held ≡ 10 ∷ whole.0 = whole.1 in
    let behind : rest ≡ whole.0 = left ∙ ap (drop 1) begins in
    let from : Come before now faults count None line (10 ∷ whole.0) came taken asked handed arrivals =
    subst (λ s. Come before now faults count s line (10 ∷ whole.0) came taken asked handed arrivals) going (subst (λ h. Come before now faults count stopped line h came taken asked handed arrivals) begins c) in
    let stays_asked : asked ≡ asked || is_hand line = sym (ap (λ x. asked || x) (says-no_hand line says_some) ∙ or-false asked) in
    let limits : list_all is_arrival (arrivals ++ a ∷ []) ≡ true =
    list_all-append is_arrival arrivals (a ∷ []) ∙ and_from (list_all is_arrival arrivals) (list_all is_arrival (a ∷ [])) from.limits (and_from (is_arrival a) true limit refl) in
    let to : Come before now faults count None [] whole.0 admits (taken + 1) (asked || is_hand line) handed (arrivals ++ a ∷ []) =
    come-line before now faults count line whole.0 came admits taken asked handed arrivals (arrivals ++ a ∷ []) (λ lines s. say-one line lines arrivals a says_some is s) limits
    (λ e. after-more arrivals a (nothing_came (most_clients true)) came admits e (sym may)) from in
    subst (λ s. Come before now faults count s later rest same more asks handed (arrivals ++ a ∷ [])) (sym (stays ∙ going))
    (subst (λ l. Come before now faults count None l rest same more asks handed (arrivals ++ a ∷ [])) (sym empty)
    (subst (λ r. Come before now faults count None [] r same more asks handed (arrivals ++ a ∷ [])) (sym behind)
    (subst (λ o. Come before now faults count None [] whole.0 o more asks handed (arrivals ++ a ∷ [])) (sym order)
    (subst (λ n. Come before now faults count None [] whole.0 admits n asks handed (arrivals ++ a ∷ [])) (sym number)
    (subst (λ k. Come before now faults count None [] whole.0 admits (taken + 1) k handed (arrivals ++ a ∷ [])) (sym (ask ∙ stays_asked)) to)))))

-- ---- a hand-over

some-counted : (lines : List (List ℕ)) → list_any is_hand lines ≡ true → 0 < count_by is_hand lines
some-counted [] e = cc
some-counted (line ∷ lines) e =
    subst (λ n. 0 < n) (sym (sum_by-cons (λ (l : List ℕ). cond (is_hand l) 1 0) line lines)) (step (is_hand line) e (λ h. some-counted lines h)) where
      step : (x : Bool) → x || list_any is_hand lines ≡ true → (list_any is_hand lines ≡ true → 0 < count_by is_hand lines) → 0 < cond x 1 0 + count_by is_hand lines
      step true h later = omega arith
      step false h later = let some : 0 < count_by is_hand lines = later h in omega arith

-- the leader hands over for the lines that have come since it last did
pub come-handed : (before now : Option (List (List ℕ))) (faults count : ℕ) (stopped : Option Stopped) (line held : List ℕ) (came : Came) (taken : ℕ) (asked : Bool) (handed : ℕ) (arrivals : List Arrival)
    → asked ≡ true → Come before now faults count stopped line held came taken asked handed arrivals → Come before now faults count stopped line held came taken false (handed + 1) arrivals
come-handed before now faults count stopped line held came taken asked handed arrivals word c =
    let some : 0 < count_by is_hand c.since = some-counted c.since (sym c.asks ∙ word) in
    let all : count_by is_hand (c.earlier ++ c.since) ≡ count_by is_hand c.earlier + count_by is_hand c.since = sum_by-append (λ (line : List ℕ). cond (is_hand line) 1 0) c.earlier c.since in
    record {
      reads = c.reads;
      lines = c.lines;
      gave = c.gave;
      joined = c.joined;
      plain = c.plain;
      said = c.said;
      limits = c.limits;
      orderly = c.orderly;
      numbered = c.numbered;
      earlier = c.earlier ++ c.since;
      since = [];
      parted = c.parted ∙ sym (append-nil (c.earlier ++ c.since));
      words = omega (arith, c.words, some, all);
      asks = refl;
      counted = c.counted;
      stops = c.stops;
      ended = c.ended;
    }

-- ---- a line that is refused

come-next : (before now : Option (List (List ℕ))) (faults count : ℕ) (line held : List ℕ) (came : Came) (taken n : ℕ) (asked : Bool) (handed : ℕ) (cause : ArrivalCause) (arrivals : List Arrival)
    → n ≡ line_number taken → IsRefused line held came taken cause → Come before now faults count None line held came taken asked handed arrivals
    → Come before now faults count (Some (Refused n cause)) line held came taken asked handed arrivals
come-next before now faults count line held came taken n asked handed cause arrivals number why c = record {
  reads = c.reads;
  lines = c.lines;
  gave = c.gave;
  joined = c.joined;
  plain = c.plain;
  said = c.said;
  limits = c.limits;
  orderly = c.orderly;
  numbered = c.numbered;
  earlier = c.earlier;
  since = c.since;
  parted = c.parted;
  words = c.words;
  asks = c.asks;
  counted = c.counted;
  stops = (number, why);
  ended = λ e. cc;
}

pub come-refused : (before now : Option (List (List ℕ))) (faults count : ℕ) (stopped : Option Stopped) (line held : List ℕ) (came : Came) (taken n : ℕ) (asked : Bool) (handed : ℕ) (cause : ArrivalCause) (arrivals : List Arrival)
    → stopped ≡ None → n ≡ line_number taken → IsRefused line held came taken cause → Come before now faults count stopped line held came taken asked handed arrivals
    → Come before now faults count (Some (Refused n cause)) line held came taken asked handed arrivals
come-refused before now faults count stopped line held came taken n asked handed cause arrivals going number why c =
    come-next before now faults count line held came taken n asked handed cause arrivals number why (subst (λ s. Come before now faults count s line held came taken asked handed arrivals) going c)
