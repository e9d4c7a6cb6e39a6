use Rattle.nv_driver.proofs.Making.{read_of, kept_of, making, unmaking}
use Rattle.nv_driver.proofs.tools.make.Goals as goal

pub returns-in-Bytes-clause-text : goal.returns-in-Bytes-clause-text
returns-in-Bytes-clause-text g c =
    making c.use_tool.result c.args.tool (g.F.Files.holds c.args.files.now c.args.file.now) c.deref.result.now
    (read_of c.in_ok-bytes.field-0 c.in-Bytes.bytes c.deref.result.now _ c.in-Bytes.is c.deref.ensures.value c.in_ok-bytes.ensures.answer) c.use_tool.ensures.text

pub returns-in-Bytes-clause-unmade : goal.returns-in-Bytes-clause-unmade
returns-in-Bytes-clause-unmade g c =
    unmaking c.use_tool.result c.args.tool (g.F.Files.holds c.args.files.now c.args.file.now) c.deref.result.now _ _ _ _
    (read_of c.in_ok-bytes.field-0 c.in-Bytes.bytes c.deref.result.now _ c.in-Bytes.is c.deref.ensures.value c.in_ok-bytes.ensures.answer)
    (kept_of c.in_ok-bytes.field-0 c.in-Bytes.bytes _ _ c.in-Bytes.is c.in_ok-bytes.ensures.unfailed) c.use_tool.ensures.unmade
