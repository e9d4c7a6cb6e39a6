-- Every script that a text says keeps to the limits.
use Rattle.std.proofs.Common.{◌≡◌, ℕ, ◌+◌, ◌^◌, ◌<◌, ◌≤◌, Bool, true, false, not, cond, ◌&&◌, ◌==◌, nat_lt, nat_le, List, [], ◌∷◌, ◌++◌, Option, Some, None, is_some, unwrap_or, option_map, Result, Ok, Err, codes, length, sym, ap, refl, ◌∙◌, arith, length-append, subst, bytes_eq}
use Rattle.std.specs.Char.{is_ascii_digit}
use Rattle.std.specs.List.{list_all}
use Rattle.std.specs.Str.Parse.{digits_value}
use Rattle.std.proofs.lemmas.Bool.{and_parts, and_from, or_parts}
use Rattle.std.proofs.lemmas.Bool.Decides.{nat_tests}
use Rattle.std.proofs.lemmas.List.Folds.{list_all-append, list_any-append}
use Rattle.std.proofs.lemmas.Slice.Eq.{bytes_eq-Decides}
use Rattle.nv_bytes.specs.Fields.{first_word, rest_of, fields}
use Rattle.nv_bytes.specs.Numbers.{number_of, unhexed}
use Rattle.nv_bytes.specs.Lines.{lines}
use Rattle.nv_script.specs.declared.arrival.ArrivalCause.{ArrivalCause}
use Rattle.nv_script.specs.Arrivals.{Arrival, is_arrival}
use Rattle.nv_script.specs.Reading.{arrival_of}
use Rattle.nv_script.specs.Order.{Came, most_clients, nothing_came, admitted, after, are_arrivals}
use Rattle.nv_script.proofs.SoundLines.{arrival_of-sound}
use Rattle.nv_script.proofs.Orderly.{after-more, after-none, are_arrivals-from}
use Rattle.nv_script.specs.declared.entry.Clock.{Clock}
use Rattle.nv_script.specs.declared.form.Form.{Form}
use Rattle.nv_script.specs.declared.fault.ScriptCause.{ScriptCause}
use Rattle.nv_script.specs.declared.fault.ScriptCause.TheVariants.{Range, Twice, Long}
use Rattle.nv_script.specs.declared.fault.ScriptFault.{ScriptFault}
use Rattle.nv_script.specs.declared.kind.Kind.{Kind}
use Rattle.nv_script.specs.declared.kind.Kind.TheVariants as kind
use Rattle.nv_script.specs.Entry.{Entry, Nothing, Argument, Input, File, Time, Seed, Hand, Connection, Arrives, arrives, begins_arrival, form_of, is_fifth, is_hand, hand_entry, hand_with, is_port, connection_entry, connection_with, connection_of, argument_entry, is_argument, is_file_name, is_passed_over, clock_fits, clock_entry, clock_with, clock_of, file_with, file_entry, shaped, entry_by, entry_with, entry_of, kind_of}
use Rattle.nv_script.specs.Scripts.{Named, Incoming, Setup, Draft, blank, has_name, has_hand, with_argument, with_named_file, with_clock, with_seed, with_hand, with_connection, with_came, with_arrival, with_entry, with_result, with_script_line, onward, drafted, no_clock, finished, finished_result, script_in, script_of_lines, script_of, is_file, are_distinct, are_files, differ, are_hands, is_connection, are_connections, is_script}

-- ---- the parts of the two tests

pub record FilesKeep (files : List Named) : Type 0 where
  pub few : length files ≤ 256
  pub sound : list_all is_file files ≡ true
  pub distinct : are_distinct files ≡ true

pub files-keep : (files : List Named) → are_files files ≡ true → FilesKeep files
unfolding are_files
files-keep files e =
    let parts = and_parts (nat_le (length files) 256) _ e in
    let rest = and_parts (list_all is_file files) _ parts.1 in
    let few : length files ≤ 256 = grind (arith, nat_tests) in
    record { few = few; sound = rest.0; distinct = rest.1 }

pub are_files-from : (files : List Named) → FilesKeep files → are_files files ≡ true
unfolding are_files
are_files-from files k =
    let few : nat_le (length files) 256 ≡ true = grind (arith, nat_tests) in
    and_from _ _ few (and_from _ _ k.sound k.distinct)

pub record HandsKeep (hands : List ℕ) : Type 0 where
  pub few : length hands ≤ 8
  pub sound : list_all is_hand hands ≡ true
  pub apart : differ hands ≡ true

pub hands-keep : (hands : List ℕ) → are_hands hands ≡ true → HandsKeep hands
unfolding are_hands
hands-keep hands e =
    let parts = and_parts (nat_le (length hands) 8) _ e in
    let rest = and_parts (list_all is_hand hands) _ parts.1 in
    let few : length hands ≤ 8 = grind (arith, nat_tests) in
    record { few = few; sound = rest.0; apart = rest.1 }

pub are_hands-from : (hands : List ℕ) → HandsKeep hands → are_hands hands ≡ true
unfolding are_hands
are_hands-from hands k =
    let few : nat_le (length hands) 8 ≡ true = grind (arith, nat_tests) in
    and_from _ _ few (and_from _ _ k.sound k.apart)

pub record ConnectionsKeep (connections : List Incoming) : Type 0 where
  pub few : length connections ≤ 64
  pub sound : list_all is_connection connections ≡ true

are_connections-from : (connections : List Incoming) → ConnectionsKeep connections → are_connections connections ≡ true
unfolding are_connections
are_connections-from connections k =
    let few : nat_le (length connections) 64 ≡ true = grind (arith, nat_tests) in
    and_from _ _ few k.sound

pub record ScriptKeeps (setup : Setup) : Type 0 where
  pub arguments : length setup.arguments ≤ 256
  pub texts : list_all is_argument setup.arguments ≡ true
  pub files : are_files setup.files ≡ true
  pub seconds : setup.seconds < 2 ^ 32
  pub nanos : setup.nanos ≤ 999999999
  pub step : setup.step ≤ 1000000000
  pub seed : setup.seed < 2 ^ 32
  pub hands : are_hands setup.hands ≡ true
  pub connections : are_connections setup.connections ≡ true
  pub arrivals : are_arrivals (most_clients setup.polls) setup.arrivals ≡ true

pub script-keeps : (setup : Setup) → is_script setup ≡ true → ScriptKeeps setup
unfolding is_script
script-keeps setup e =
    let a = and_parts (nat_le (length setup.arguments) 256) _ e in
    let b = and_parts (list_all is_argument setup.arguments) _ a.1 in
    let c = and_parts (are_files setup.files) _ b.1 in
    let d = and_parts (nat_lt setup.seconds (2 ^ 32)) _ c.1 in
    let f = and_parts (nat_le setup.nanos 999999999) _ d.1 in
    let g = and_parts (nat_le setup.step 1000000000) _ f.1 in
    let h = and_parts (nat_lt setup.seed (2 ^ 32)) _ g.1 in
    let i = and_parts (are_hands setup.hands) _ h.1 in
    let j = and_parts (are_connections setup.connections) _ i.1 in
    let arguments : length setup.arguments ≤ 256 = grind (arith, nat_tests) in
    let seconds : setup.seconds < 2 ^ 32 = grind (arith, nat_tests) in
    let nanos : setup.nanos ≤ 999999999 = grind (arith, nat_tests) in
    let step : setup.step ≤ 1000000000 = grind (arith, nat_tests) in
    let seed : setup.seed < 2 ^ 32 = grind (arith, nat_tests) in
    record { arguments = arguments; texts = b.0; files = c.0; seconds = seconds; nanos = nanos; step = step; seed = seed; hands = i.0; connections = j.0; arrivals = j.1 }

pub is_script-from : (setup : Setup) → ScriptKeeps setup → is_script setup ≡ true
unfolding is_script
is_script-from setup k =
    let arguments : nat_le (length setup.arguments) 256 ≡ true = grind (arith, nat_tests) in
    let seconds : nat_lt setup.seconds (2 ^ 32) ≡ true = grind (arith, nat_tests) in
    let nanos : nat_le setup.nanos 999999999 ≡ true = grind (arith, nat_tests) in
    let step : nat_le setup.step 1000000000 ≡ true = grind (arith, nat_tests) in
    let seed : nat_lt setup.seed (2 ^ 32) ≡ true = grind (arith, nat_tests) in
    and_from _ _ arguments (and_from _ _ k.texts (and_from _ _ k.files (and_from _ _ seconds (and_from _ _ nanos (and_from _ _ step (and_from _ _ seed (and_from _ _ k.hands (and_from _ _ k.connections k.arrivals))))))))

-- ---- what a line says

abbrev pub clock_sound : Clock → Bool
clock_sound clock = nat_lt clock.seconds (2 ^ 32) && clock_fits clock

abbrev pub seed_sound : ℕ → Bool
seed_sound seed = nat_lt seed (2 ^ 32)

-- what an entry of a line that says nothing of what comes keeps to
abbrev pub stated_sound : Entry → Bool
stated_sound Nothing = true
stated_sound (Argument text) = is_argument text
stated_sound (Input bytes) = true
stated_sound (File name content) = is_file_name name
stated_sound (Time clock) = clock_sound clock
stated_sound (Seed seed) = seed_sound seed
stated_sound (Hand n) = is_hand n
stated_sound (Connection port input) = is_port port
stated_sound (Arrives a) = false

pub stated-along : (e f : Entry) → stated_sound e ≡ true → e ≡ f → stated_sound f ≡ true
stated-along e f h same = ap stated_sound (sym same) ∙ h

number_of-fits : (text : List ℕ) (n : ℕ) → number_of text ≡ Some n → nat_lt n (2 ^ 32) ≡ true
unfolding number_of
number_of-fits text n e = step (list_all is_ascii_digit text && nat_lt 0 (length text) && nat_lt (digits_value 10 text) (2 ^ 32)) refl e where
  step : (x : Bool) → (list_all is_ascii_digit text && nat_lt 0 (length text) && nat_lt (digits_value 10 text) (2 ^ 32)) ≡ x → cond x (Some (digits_value 10 text)) None ≡ Some n → nat_lt n (2 ^ 32) ≡ true
  step true fits h =
      let same : digits_value 10 text ≡ n = cc in
      subst (λ (m : ℕ). nat_lt m (2 ^ 32) ≡ true) same (and_parts (list_all is_ascii_digit text && nat_lt 0 (length text)) _ fits).1
  step false fits h = cc

-- an optional entry, in its shape
abbrev found_sound : Option Entry → Bool
found_sound None = true
found_sound (Some e) = stated_sound e

shaped-sound : (found : Option Entry) (e : Entry) → found_sound found ≡ true → shaped found ≡ Ok e → stated_sound e ≡ true
shaped-sound None e sound h = cc
shaped-sound (Some f) e sound h = stated-along f e sound cc

argument-sound : (text : List ℕ) → found_sound (argument_entry text) ≡ true
argument-sound text = step (is_argument text) refl where
  step : (x : Bool) → is_argument text ≡ x → found_sound (cond x (Some (Argument text)) None) ≡ true
  step true sound = sound
  step false sound = refl

input-sound : (content : Option (List ℕ)) → found_sound (option_map Input content) ≡ true
input-sound None = refl
input-sound (Some bytes) = refl

file_with-sound : (name : List ℕ) (content : Option (List ℕ)) → found_sound (file_with name content) ≡ true
file_with-sound name content = step (is_file_name name) content refl where
  step : (x : Bool) (content : Option (List ℕ)) → is_file_name name ≡ x → found_sound (cond x (option_map (λ bytes. File name bytes) content) None) ≡ true
  step true None sound = refl
  step true (Some bytes) sound = sound
  step false content sound = refl

file_of-sound : (texts : List (List ℕ)) → found_sound (file_entry texts) ≡ true
file_of-sound [] = refl
file_of-sound (name ∷ []) = file_with-sound name (Some [])
file_of-sound (name ∷ hex ∷ []) = file_with-sound name (unhexed hex)
file_of-sound (name ∷ hex ∷ more ∷ texts) = refl

clock_entry-sound : (clock : Clock) (e : Entry) → nat_lt clock.seconds (2 ^ 32) ≡ true → clock_entry clock ≡ Ok e → stated_sound e ≡ true
clock_entry-sound clock e seconds h = step (clock_fits clock) refl h where
  step : (x : Bool) → clock_fits clock ≡ x → cond x (Ok (Time clock)) (Err Range) ≡ Ok e → stated_sound e ≡ true
  step true fits h = stated-along (Time clock) e (and_from _ _ seconds fits) cc
  step false fits h = cc

clock_with-sound : (seconds nanos step : Option ℕ) (e : Entry) → ((n : ℕ) → seconds ≡ Some n → nat_lt n (2 ^ 32) ≡ true) → clock_with seconds nanos step ≡ Ok e → stated_sound e ≡ true
clock_with-sound None nanos step e fits h = cc
clock_with-sound (Some s) None step e fits h = cc
clock_with-sound (Some s) (Some n) None e fits h = cc
clock_with-sound (Some s) (Some n) (Some t) e fits h = clock_entry-sound (record { seconds = s; nanos = n; step = t }) e (fits s refl) h

clock_of-sound : (texts : List (List ℕ)) (e : Entry) → clock_of texts ≡ Ok e → stated_sound e ≡ true
clock_of-sound [] e h = cc
clock_of-sound (s ∷ []) e h = cc
clock_of-sound (s ∷ n ∷ []) e h = cc
clock_of-sound (s ∷ n ∷ t ∷ []) e h = clock_with-sound (number_of s) (number_of n) (number_of t) e (number_of-fits s) h
clock_of-sound (s ∷ n ∷ t ∷ more ∷ texts) e h = cc

seed-sound : (seed : Option ℕ) → ((n : ℕ) → seed ≡ Some n → nat_lt n (2 ^ 32) ≡ true) → found_sound (option_map Seed seed) ≡ true
seed-sound None fits = refl
seed-sound (Some n) fits = fits n refl

hand_entry-sound : (n : ℕ) (e : Entry) → hand_entry n ≡ Ok e → stated_sound e ≡ true
hand_entry-sound n e h = step (is_hand n) refl h where
  step : (x : Bool) → is_hand n ≡ x → cond x (Ok (Hand n)) (Err Range) ≡ Ok e → stated_sound e ≡ true
  step true fits h = stated-along (Hand n) e fits cc
  step false fits h = cc

hand_with-sound : (found : Option ℕ) (e : Entry) → hand_with found ≡ Ok e → stated_sound e ≡ true
hand_with-sound None e h = cc
hand_with-sound (Some n) e h = hand_entry-sound n e h

connection_entry-sound : (port : ℕ) (input : List ℕ) (e : Entry) → connection_entry port input ≡ Ok e → stated_sound e ≡ true
connection_entry-sound port input e h = step (is_port port) refl h where
  step : (x : Bool) → is_port port ≡ x → cond x (Ok (Connection port input)) (Err Range) ≡ Ok e → stated_sound e ≡ true
  step true fits h = stated-along (Connection port input) e fits cc
  step false fits h = cc

connection_with-sound : (port : Option ℕ) (input : Option (List ℕ)) (e : Entry) → connection_with port input ≡ Ok e → stated_sound e ≡ true
connection_with-sound None input e h = cc
connection_with-sound (Some port) None e h = cc
connection_with-sound (Some port) (Some input) e h = connection_entry-sound port input e h

connection_of-sound : (texts : List (List ℕ)) (e : Entry) → connection_of texts ≡ Ok e → stated_sound e ≡ true
connection_of-sound [] e h = cc
connection_of-sound (port ∷ []) e h = connection_with-sound (number_of port) (Some []) e h
connection_of-sound (port ∷ hex ∷ []) e h = connection_with-sound (number_of port) (unhexed hex) e h
connection_of-sound (port ∷ hex ∷ more ∷ texts) e h = cc

entry_by-sound : (k : Kind) (rest : List ℕ) (e : Entry) → entry_by k rest ≡ Ok e → stated_sound e ≡ true
entry_by-sound kind.Argument rest e h = shaped-sound (argument_entry rest) e (argument-sound rest) h
entry_by-sound kind.Line rest e h = stated-along (Input (rest ++ codes "\n")) e refl cc
entry_by-sound kind.Input rest e h = shaped-sound (option_map Input (unhexed rest)) e (input-sound (unhexed rest)) h
entry_by-sound kind.File rest e h = shaped-sound (file_entry (fields rest)) e (file_of-sound (fields rest)) h
entry_by-sound kind.Clock rest e h = clock_of-sound (fields rest) e h
entry_by-sound kind.Random rest e h = shaped-sound (option_map Seed (number_of rest)) e (seed-sound (number_of rest) (number_of-fits rest)) h
entry_by-sound kind.Hand rest e h = hand_with-sound (number_of rest) e h
entry_by-sound kind.Connect rest e h = connection_of-sound (fields rest) e h

pub entry_with-sound : (k : Option Kind) (rest : Option (List ℕ)) (e : Entry) → entry_with k rest ≡ Ok e → stated_sound e ≡ true
entry_with-sound None rest e h = cc
entry_with-sound (Some k) None e h = cc
entry_with-sound (Some k) (Some rest) e h = entry_by-sound k rest e h

-- what any entry keeps to
abbrev entry_sound : Entry → Bool
entry_sound (Arrives a) = is_arrival a
entry_sound e = stated_sound e

sound-along : (e f : Entry) → entry_sound e ≡ true → e ≡ f → entry_sound f ≡ true
sound-along e f h same = ap entry_sound (sym same) ∙ h

stated-sound : (e : Entry) → stated_sound e ≡ true → entry_sound e ≡ true
stated-sound Nothing h = h
stated-sound (Argument text) h = h
stated-sound (Input bytes) h = h
stated-sound (File name content) h = h
stated-sound (Time clock) h = h
stated-sound (Seed seed) h = h
stated-sound (Hand n) h = h
stated-sound (Connection port input) h = h
stated-sound (Arrives a) h = cc

arrives-sound : (r : Result Arrival ArrivalCause) (e : Entry) → ((a : Arrival) → r ≡ Ok a → is_arrival a ≡ true) → arrives r ≡ Ok e → entry_sound e ≡ true
arrives-sound (Ok a) e sound h = sound-along (Arrives a) e (sound a refl) cc
arrives-sound (Err c) e sound h = cc

entry_of-sound : (form : Form) (line : List ℕ) (e : Entry) → entry_of form line ≡ Ok e → entry_sound e ≡ true
unfolding entry_of
entry_of-sound form line e h = step (is_passed_over line) (begins_arrival form line) h where
  step : (x y : Bool) → cond x (Ok Nothing) (cond y (arrives (arrival_of line)) (entry_with (kind_of form (first_word line)) (rest_of line))) ≡ Ok e → entry_sound e ≡ true
  step true y h = sound-along Nothing e refl cc
  step false true h = arrives-sound (arrival_of line) e (arrival_of-sound line) h
  step false false h = stated-sound e (entry_with-sound (kind_of form (first_word line)) (rest_of line) e h)

-- ---- files with one more

same_test : (a b : List ℕ) → bytes_eq a b ≡ false → bytes_eq b a ≡ false
same_test a b e = step (bytes_eq b a) refl where
  step : (x : Bool) → bytes_eq b a ≡ x → x ≡ false
  step true same = let other = (bytes_eq-Decides a b).1 (sym ((bytes_eq-Decides b a).0 same)) in cc
  step false same = refl

has_name-more : (name : List ℕ) (files : List Named) (file : Named) → has_name name files ≡ false → bytes_eq name file.0 ≡ false → has_name name (files ++ file ∷ []) ≡ false
has_name-more name files file before here =
    list_any-append (λ (f : Named). bytes_eq name f.0) files (file ∷ []) ∙ rw (before, here) refl

pub not_true : (x : Bool) → not x ≡ true → x ≡ false
not_true true e = cc
not_true false e = refl

are_distinct-more : (files : List Named) (file : Named) → are_distinct files ≡ true → has_name file.0 files ≡ false → are_distinct (files ++ file ∷ []) ≡ true
are_distinct-more [] file distinct new = refl
are_distinct-more (f ∷ files) file distinct new =
    let parts = and_parts (not (has_name f.0 files)) (are_distinct files) distinct in
    let apart = or_parts (bytes_eq file.0 f.0) (has_name file.0 files) new in
    let none : has_name f.0 files ≡ false = not_true (has_name f.0 files) parts.0 in
    and_from _ _ (ap not (has_name-more f.0 files file none (same_test file.0 f.0 apart.0))) (are_distinct-more files file parts.1 apart.1)

files-more : (files : List Named) (file : Named) → FilesKeep files → length files < 256 → is_file file ≡ true → has_name file.0 files ≡ false → FilesKeep (files ++ file ∷ [])
files-more files file k room sound new =
    record {
      few = omega (arith, length-append files (file ∷ []));
      sound = list_all-append is_file files (file ∷ []) ∙ and_from _ _ k.sound (and_from _ _ sound refl);
      distinct = are_distinct-more files file k.distinct new;
    }

-- ---- lengths to hand over at, with one more

pub same_length : (m n : ℕ) → (m == n) ≡ false → (n == m) ≡ false
same_length m n e = step (n == m) refl where
  step : (x : Bool) → (n == m) ≡ x → x ≡ false
  step true same = grind (arith, nat_tests)
  step false same = refl

has_hand-more : (n : ℕ) (hands : List ℕ) (m : ℕ) → has_hand n hands ≡ false → (m == n) ≡ false → has_hand n (hands ++ m ∷ []) ≡ false
has_hand-more n hands m before here = list_any-append (λ (k : ℕ). k == n) hands (m ∷ []) ∙ rw (before, here) refl

differ-more : (hands : List ℕ) (m : ℕ) → differ hands ≡ true → has_hand m hands ≡ false → differ (hands ++ m ∷ []) ≡ true
differ-more [] m apart new = refl
differ-more (n ∷ hands) m apart new =
    let parts = and_parts (not (has_hand n hands)) (differ hands) apart in
    let other = or_parts (n == m) (has_hand m hands) new in
    let none : has_hand n hands ≡ false = not_true (has_hand n hands) parts.0 in
    and_from _ _ (ap not (has_hand-more n hands m none (same_length n m other.0))) (differ-more hands m parts.1 other.1)

pub hands-more : (hands : List ℕ) (n : ℕ) → HandsKeep hands → length hands < 8 → is_hand n ≡ true → has_hand n hands ≡ false → HandsKeep (hands ++ n ∷ [])
hands-more hands n k room sound new =
    record {
      few = omega (arith, length-append hands (n ∷ []));
      sound = list_all-append is_hand hands (n ∷ []) ∙ and_from _ _ k.sound (and_from _ _ sound refl);
      apart = differ-more hands n k.apart new;
    }

-- ---- connections, with one more

connections-more : (connections : List Incoming) (more : Incoming) → ConnectionsKeep connections → length connections < 64 → is_connection more ≡ true → ConnectionsKeep (connections ++ more ∷ [])
connections-more connections more k room sound = record {
  few = omega (arith, length-append connections (more ∷ []));
  sound = list_all-append is_connection connections (more ∷ []) ∙ and_from _ _ k.sound (and_from _ _ sound refl);
}

-- ---- arrivals, with one more

pub record ArrivalsKeep (most : ℕ) (arrivals : List Arrival) (now : Came) : Type 0 where
  pub sound : list_all is_arrival arrivals ≡ true
  pub orderly : after arrivals (nothing_came most) ≡ Ok now

arrivals-more : (most : ℕ) (arrivals : List Arrival) (a : Arrival) (now next : Came) → ArrivalsKeep most arrivals now → is_arrival a ≡ true → admitted a now ≡ Ok next → ArrivalsKeep most (arrivals ++ a ∷ []) next
arrivals-more most arrivals a now next k sound h = record {
  sound = list_all-append is_arrival arrivals (a ∷ []) ∙ and_from _ _ k.sound (and_from _ _ sound refl);
  orderly = after-more arrivals a (nothing_came most) now next k.orderly h;
}

-- ---- drafts

pub record DraftKeeps (most : ℕ) (draft : Draft) : Type 0 where
  pub arguments : length draft.arguments ≤ 256
  pub texts : list_all is_argument draft.arguments ≡ true
  pub files : FilesKeep draft.files
  pub clock : clock_sound (unwrap_or draft.clock no_clock) ≡ true
  pub seed : seed_sound (unwrap_or draft.seed 0) ≡ true
  pub hands : HandsKeep draft.hands
  pub connections : ConnectionsKeep draft.connections
  pub arrivals : ArrivalsKeep most draft.arrivals draft.came

pub blank-keeps : (f : Form) → DraftKeeps (most_clients (is_fifth f)) (blank f)
blank-keeps f = record { arguments = omega arith; texts = refl; files = record { few = omega arith; sound = refl; distinct = refl }; clock = refl; seed = refl; hands = record { few = omega arith; sound = refl; apart = refl }; connections = record { few = omega arith; sound = refl }; arrivals = record { sound = refl; orderly = after-none (nothing_came (most_clients (is_fifth f))) } }

keeps-along : (most : ℕ) (d e : Draft) → DraftKeeps most d → d ≡ e → DraftKeeps most e
keeps-along most d e k same = subst (DraftKeeps most) same k

argument-keeps : (most : ℕ) (text : List ℕ) (d e : Draft) → DraftKeeps most d → is_argument text ≡ true → with_argument text d ≡ Ok e → DraftKeeps most e
unfolding with_argument
argument-keeps most text d e k sound h = step (nat_lt (length d.arguments) 256) refl h where
  step : (x : Bool) → nat_lt (length d.arguments) 256 ≡ x → cond x (Ok (record d { arguments = d.arguments ++ text ∷ [] })) (Err Long) ≡ Ok e → DraftKeeps most e
  step true room h =
      let below : length d.arguments < 256 = grind (arith, nat_tests) in
      keeps-along most (record d { arguments = d.arguments ++ text ∷ [] }) e
      (record {
        arguments = omega (arith, length-append d.arguments (text ∷ []));
        texts = list_all-append is_argument d.arguments (text ∷ []) ∙ and_from _ _ k.texts (and_from _ _ sound refl);
        files = k.files;
        clock = k.clock;
        seed = k.seed;
        hands = k.hands;
        connections = k.connections;
        arrivals = k.arrivals;
      }) cc
  step false room h = cc

input-keeps : (most : ℕ) (d e : Draft) (bytes : List ℕ) → DraftKeeps most d → record d { input = d.input ++ bytes } ≡ e → DraftKeeps most e
input-keeps most d e bytes k same = keeps-along most _ e (record { arguments = k.arguments; texts = k.texts; files = k.files; clock = k.clock; seed = k.seed; hands = k.hands; connections = k.connections; arrivals = k.arrivals }) same

file-keeps : (most : ℕ) (name content : List ℕ) (d e : Draft) → DraftKeeps most d → is_file_name name ≡ true → with_named_file name content d ≡ Ok e → DraftKeeps most e
unfolding with_named_file
file-keeps most name content d e k sound h = step (has_name name d.files) (nat_lt (length d.files) 256 && nat_le (length content) 1048576) refl refl h where
  step : (x y : Bool) → has_name name d.files ≡ x → (nat_lt (length d.files) 256 && nat_le (length content) 1048576) ≡ y
      → cond x (Err Twice) (cond y (Ok (record d { files = d.files ++ (name, content) ∷ [] })) (Err Long)) ≡ Ok e → DraftKeeps most e
  step true y new room h = cc
  step false true new room h =
      let parts = and_parts (nat_lt (length d.files) 256) _ room in
      let below : length d.files < 256 = grind (arith, nat_tests) in
      keeps-along most (record d { files = d.files ++ (name, content) ∷ [] }) e
      (record {
        arguments = k.arguments;
        texts = k.texts;
        files = files-more d.files (name, content) k.files below (and_from _ _ sound parts.1) new;
        clock = k.clock;
        seed = k.seed;
        hands = k.hands;
        connections = k.connections;
        arrivals = k.arrivals;
      }) cc
  step false false new room h = cc

clock-keeps : (most : ℕ) (clock : Clock) (d e : Draft) → DraftKeeps most d → clock_sound clock ≡ true → with_clock clock d ≡ Ok e → DraftKeeps most e
clock-keeps most clock d e k sound h = step (is_some d.clock) h where
  step : (x : Bool) → cond x (Err Twice) (Ok (record d { clock = Some clock })) ≡ Ok e → DraftKeeps most e
  step true h = cc
  step false h = keeps-along most (record d { clock = Some clock }) e (record { arguments = k.arguments; texts = k.texts; files = k.files; clock = sound; seed = k.seed; hands = k.hands; connections = k.connections; arrivals = k.arrivals }) cc

seed-keeps : (most : ℕ) (seed : ℕ) (d e : Draft) → DraftKeeps most d → seed_sound seed ≡ true → with_seed seed d ≡ Ok e → DraftKeeps most e
seed-keeps most seed d e k sound h = step (is_some d.seed) h where
  step : (x : Bool) → cond x (Err Twice) (Ok (record d { seed = Some seed })) ≡ Ok e → DraftKeeps most e
  step true h = cc
  step false h = keeps-along most (record d { seed = Some seed }) e (record { arguments = k.arguments; texts = k.texts; files = k.files; clock = k.clock; seed = sound; hands = k.hands; connections = k.connections; arrivals = k.arrivals }) cc

hand-keeps : (most : ℕ) (n : ℕ) (d e : Draft) → DraftKeeps most d → is_hand n ≡ true → with_hand n d ≡ Ok e → DraftKeeps most e
hand-keeps most n d e k sound h = step (has_hand n d.hands) (nat_lt (length d.hands) 8) refl refl h where
  step : (x y : Bool) → has_hand n d.hands ≡ x → nat_lt (length d.hands) 8 ≡ y
      → cond x (Err Twice) (cond y (Ok (record d { hands = d.hands ++ n ∷ [] })) (Err Long)) ≡ Ok e → DraftKeeps most e
  step true y new room h = cc
  step false true new room h =
      let below : length d.hands < 8 = grind (arith, nat_tests) in
      keeps-along most (record d { hands = d.hands ++ n ∷ [] }) e
      (record { arguments = k.arguments; texts = k.texts; files = k.files; clock = k.clock; seed = k.seed; hands = hands-more d.hands n k.hands below sound new; connections = k.connections; arrivals = k.arrivals }) cc
  step false false new room h = cc

connection-keeps : (most : ℕ) (port : ℕ) (input : List ℕ) (d e : Draft) → DraftKeeps most d → is_port port ≡ true → with_connection port input d ≡ Ok e → DraftKeeps most e
unfolding with_connection
connection-keeps most port input d e k sound h = step (nat_lt (length d.connections) 64 && nat_le (length input) 1048576) refl h where
  step : (x : Bool) → (nat_lt (length d.connections) 64 && nat_le (length input) 1048576) ≡ x
      → cond x (Ok (record d { connections = d.connections ++ (port, input) ∷ [] })) (Err Long) ≡ Ok e → DraftKeeps most e
  step true room h =
      let parts = and_parts (nat_lt (length d.connections) 64) _ room in
      let below : length d.connections < 64 = grind (arith, nat_tests) in
      keeps-along most (record d { connections = d.connections ++ (port, input) ∷ [] }) e
      (record {
        arguments = k.arguments;
        texts = k.texts;
        files = k.files;
        clock = k.clock;
        seed = k.seed;
        hands = k.hands;
        connections = connections-more d.connections (port, input) k.connections below (and_from _ _ sound parts.1);
        arrivals = k.arrivals;
      }) cc
  step false room h = cc

arrival-keeps : (most : ℕ) (a : Arrival) (d e : Draft) → DraftKeeps most d → is_arrival a ≡ true → with_arrival a d ≡ Ok e → DraftKeeps most e
arrival-keeps most a d e k sound h = step (admitted a d.came) refl h where
  step : (r : Result Came ArrivalCause) → admitted a d.came ≡ r → with_came a r d ≡ Ok e → DraftKeeps most e
  step (Ok next) is h =
      keeps-along most (record d { arrivals = d.arrivals ++ a ∷ []; came = next }) e
      (record {
        arguments = k.arguments;
        texts = k.texts;
        files = k.files;
        clock = k.clock;
        seed = k.seed;
        hands = k.hands;
        connections = k.connections;
        arrivals = arrivals-more most d.arrivals a d.came next k.arrivals sound is;
      }) cc
  step (Err c) is h = cc

entry-keeps : (most : ℕ) (entry : Entry) (d e : Draft) → DraftKeeps most d → entry_sound entry ≡ true → with_entry entry d ≡ Ok e → DraftKeeps most e
entry-keeps most Nothing d e k sound h = keeps-along most d e k cc
entry-keeps most (Argument text) d e k sound h = argument-keeps most text d e k sound h
entry-keeps most (Input bytes) d e k sound h = input-keeps most d e bytes k cc
entry-keeps most (File name content) d e k sound h = file-keeps most name content d e k sound h
entry-keeps most (Time clock) d e k sound h = clock-keeps most clock d e k sound h
entry-keeps most (Seed seed) d e k sound h = seed-keeps most seed d e k sound h
entry-keeps most (Hand n) d e k sound h = hand-keeps most n d e k sound h
entry-keeps most (Connection port input) d e k sound h = connection-keeps most port input d e k sound h
entry-keeps most (Arrives a) d e k sound h = arrival-keeps most a d e k sound h

result-keeps : (most : ℕ) (r : Result Entry ScriptCause) (d e : Draft) → DraftKeeps most d → ((entry : Entry) → r ≡ Ok entry → entry_sound entry ≡ true) → with_result r d ≡ Ok e → DraftKeeps most e
result-keeps most (Ok entry) d e k sound h = entry-keeps most entry d e k (sound entry refl) h
result-keeps most (Err cause) d e k sound h = cc

line-keeps : (most : ℕ) (form : Form) (line : List ℕ) (d e : Draft) → DraftKeeps most d → with_script_line form line d ≡ Ok e → DraftKeeps most e
unfolding with_script_line
line-keeps most form line d e k h = result-keeps most (entry_of form line) d e k (entry_of-sound form line) h

pub drafted-keeps : (most : ℕ) (form : Form) (n : ℕ) (lines : List (List ℕ)) (d e : Draft) → DraftKeeps most d → drafted form n lines d ≡ Ok e → DraftKeeps most e
unfolding drafted
drafted-keeps most form n [] d e k h = keeps-along most d e k cc
drafted-keeps most form n (line ∷ lines) d e k h = step (with_script_line form line d) refl h (drafted-keeps most form (n + 1) lines) where
  step : (r : Result Draft ScriptCause) → with_script_line form line d ≡ r → onward n r (λ next. drafted form (n + 1) lines next) ≡ Ok e
      → ((d e : Draft) → DraftKeeps most d → drafted form (n + 1) lines d ≡ Ok e → DraftKeeps most e) → DraftKeeps most e
  step (Ok next) is h later = later next e (line-keeps most form line d next k is) h
  step (Err cause) is h later = cc

-- ---- the whole script

finished-keeps : (f : Form) (d : Draft) → DraftKeeps (most_clients (is_fifth f)) d → ScriptKeeps (finished f d)
finished-keeps f d k =
    let clock = and_parts (nat_lt (unwrap_or d.clock no_clock).seconds (2 ^ 32)) _ k.clock in
    let fits = and_parts (nat_le (unwrap_or d.clock no_clock).nanos 999999999) _ clock.1 in
    let seconds : (unwrap_or d.clock no_clock).seconds < 2 ^ 32 = grind (arith, nat_tests) in
    let nanos : (unwrap_or d.clock no_clock).nanos ≤ 999999999 = grind (arith, nat_tests) in
    let step : (unwrap_or d.clock no_clock).step ≤ 1000000000 = grind (arith, nat_tests) in
    let seed : unwrap_or d.seed 0 < 2 ^ 32 = grind (arith, nat_tests) in
    record { arguments = k.arguments; texts = k.texts; files = are_files-from d.files k.files; seconds = seconds; nanos = nanos; step = step; seed = seed; hands = are_hands-from d.hands k.hands; connections = are_connections-from d.connections k.connections; arrivals = are_arrivals-from (most_clients (is_fifth f)) d.arrivals d.came k.arrivals.sound k.arrivals.orderly }

finished-script : (f : Form) (r : Result Draft ScriptFault) (s : Setup) → ((d : Draft) → r ≡ Ok d → DraftKeeps (most_clients (is_fifth f)) d) → finished_result f r ≡ Ok s → is_script s ≡ true
finished-script f (Ok d) s keeps h =
    let same : finished f d ≡ s = cc in
    subst (λ (t : Setup). is_script t ≡ true) same (is_script-from (finished f d) (finished-keeps f d (keeps d refl)))
finished-script f (Err fault) s keeps h = cc

lines-script : (lines : List (List ℕ)) (s : Setup) → script_of_lines lines ≡ Ok s → is_script s ≡ true
lines-script [] s h = cc
lines-script (first ∷ rest) s h = step (form_of first) h where
  step : (found : Option Form) → script_in found rest ≡ Ok s → is_script s ≡ true
  step (Some form) h = finished-script form (drafted form 1 rest (blank form)) s (λ d e. drafted-keeps (most_clients (is_fifth form)) form 1 rest (blank form) d (blank-keeps form) e) h
  step None h = cc

-- every script that a text says keeps to the limits
pub script_of-keeps : (bytes : List ℕ) (s : Setup) → script_of bytes ≡ Ok s → is_script s ≡ true
unfolding script_of
script_of-keeps bytes s h = lines-script (lines bytes) s h
