use Rattle.nv_laws.proofs.Ending.{few_windows, windows_fall}
use Rattle.nv_laws.proofs.Sums.{all_few}
use Rattle.nv_laws.proofs.progress.each_window_leaves_less.Goals as goal

pub returns-clause-falls : goal.returns-clause-falls
returns-clause-falls g c = λ p state left run n a b w stays. windows_fall _ _ p state left run n a b w stays

pub returns-clause-few : goal.returns-clause-few
returns-clause-few g c = λ p state left run n b w stays. few_windows _ _ p state left run n b w stays

pub returns-clause-most : goal.returns-clause-most
returns-clause-most g c = λ p state left most few. all_few p.stations (state 0).views (left 0) most few
