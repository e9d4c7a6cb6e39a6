-- A log that has grown.
use Rattle.std.proofs.Common.{◌∙◌, sym, ap, subst, List, [], ◌++◌, append-nil, append_assoc}
use Rattle.nv_calls.specs.Calls.{Entry}
use Rattle.nv_calls.specs.Logs.{IsLegal, Start}
use Rattle.nv_calls.proofs.LearningLaws.{legal_front}
use Rattle.nv_sequence.specs.Passing.{Grows}

pub legal_before : (start : Start) (log new_log : List Entry) → Grows log new_log → IsLegal start new_log → IsLegal start log
legal_before start log new_log g legal = legal_front start log g.0 (subst (IsLegal start) g.1 legal)

pub grows_none : (log : List Entry) → Grows log log
grows_none log = ([], sym (append-nil log))

pub grows_on : (log later new_log : List Entry) → Grows log later → Grows later new_log → Grows log new_log
grows_on log later new_log g h = (g.0 ++ h.0, h.1 ∙ (ap (λ (x : List Entry). x ++ h.0) g.1 ∙ append_assoc log g.0 h.0))
