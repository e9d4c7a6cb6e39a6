use Rattle.nv_laws.proofs.Rooms.{goes_head, goes_owner, goes_cursor, goes_spare, goes_probe, goes_read, goes_word, goes_ahead_on, goes_out, goes_lead, goes_up, goes_away, goes_open, goes_hand, goes_over}
use Rattle.nv_laws.proofs.progress.the_room_allows_these_steps.Goals as goal

pub returns-clause-head : goal.returns-clause-head
returns-clause-head g c = λ p id me s r at wide. goes_head _ _ p id me s r at wide

pub returns-clause-owner : goal.returns-clause-owner
returns-clause-owner g c = λ p id me role s r at wide. goes_owner _ _ p id me s r at wide role

pub returns-clause-cursor : goal.returns-clause-cursor
returns-clause-cursor g c = λ p id me t near s r at wide. goes_cursor _ _ p id me s r at wide t near

pub returns-clause-spare : goal.returns-clause-spare
returns-clause-spare g c = λ p id me role plan led s r at wide. goes_spare _ _ p id me s r at wide role plan led

pub returns-clause-probes : goal.returns-clause-probes
returns-clause-probes g c = λ p id me l role below living before s r at wide. goes_probe _ _ p id me s r at wide l role below living before

pub returns-clause-reads : goal.returns-clause-reads
returns-clause-reads g c = λ p id me i l role part noted is s r at wide. goes_read _ _ p id me s r at wide i l role part noted is

pub returns-clause-writes : goal.returns-clause-writes
returns-clause-writes g c = λ p id me x role small number roomy s r at wide. goes_word _ _ p id me s r at wide x role small number roomy

pub returns-clause-sees : goal.returns-clause-sees
returns-clause-sees g c = λ p id me role full s r at wide. goes_ahead_on _ _ p id me s r at wide role full

pub returns-clause-publishes : goal.returns-clause-publishes
returns-clause-publishes g c = λ p id me role full few next s r at wide. goes_out _ _ p id me s r at wide role full few next

pub returns-clause-takes : goal.returns-clause-takes
returns-clause-takes g c = λ p id me role noted s r at wide. goes_lead _ _ p id me s r at wide role noted

pub returns-clause-gives_up : goal.returns-clause-gives_up
returns-clause-gives_up g c = λ p id me k ph role carries quiet tells law began over ended s r at wide. goes_up _ _ p id me s r at wide k ph role carries quiet tells law began over ended

pub returns-clause-leaves : goal.returns-clause-leaves
returns-clause-leaves g c = λ p id me role s r at wide. goes_away _ _ p id me s r at wide role

pub returns-clause-opens : goal.returns-clause-opens
returns-clause-opens g c = λ p id me role quiet plan led s r at wide. goes_open _ _ p id me s r at wide role quiet plan led

pub returns-clause-hands : goal.returns-clause-hands
returns-clause-hands g c = λ p id me k role carries tells law began s r at wide. goes_hand _ _ p id me s r at wide k role carries tells law began

pub returns-clause-moves : goal.returns-clause-moves
returns-clause-moves g c = λ p id me role s r at wide. goes_over _ _ p id me s r at wide role
