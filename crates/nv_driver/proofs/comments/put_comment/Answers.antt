use Rattle.std.proofs.Common.{ap, sym}
use Rattle.nv_outside.proofs.Writing.{puts-is}
use Rattle.nv_driver.specs.Comments.{comment_text, comment_view}
use Rattle.nv_driver.specs.declared.comments.Comment.{Comment}
use Rattle.nv_driver.proofs.comments.put_comment.Goals as goal

pub returns-in-LetGo : goal.returns-in-LetGo
returns-in-LetGo g c = puts-is (ap (λ (comment : Comment). comment_text (comment_view comment)) (sym c.in-LetGo.is)) c.put_let_go.ensures

pub returns-in-Leads : goal.returns-in-Leads
returns-in-Leads g c = puts-is (ap (λ (comment : Comment). comment_text (comment_view comment)) (sym c.in-Leads.is)) c.put_leads.ensures

pub returns-in-Made : goal.returns-in-Made
returns-in-Made g c = puts-is (ap (λ (comment : Comment). comment_text (comment_view comment)) (sym c.in-Made.is)) c.put_made.ensures
