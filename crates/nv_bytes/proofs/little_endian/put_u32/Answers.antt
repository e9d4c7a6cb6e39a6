use Rattle.nv_bytes.proofs.Parts.{put_rest}
use Rattle.byteorder.specs.Endian.{little_bytes}
use Rattle.nv_bytes.specs.LittleEndian.{with_field}
use Rattle.nv_bytes.proofs.little_endian.put_u32.Goals as goal

pub returns : goal.returns
unfolding with_field
returns c = put_rest 4 c.args.place c.args.out.now c.write_u32.new.buf (little_bytes 4 c.args.value) c.write_u32.ensures
