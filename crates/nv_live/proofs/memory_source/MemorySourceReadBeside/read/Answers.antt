use Rattle.std.proofs.Common.{rules, length, drop}
use Rattle.nv_live.proofs.InMemory.{reads_next}
use Rattle.nv_live.proofs.memory_source.MemorySourceReadBeside.read.Goals as goal

pub returns-in-Some-clause-read : goal.returns-in-Some-clause-read
returns-in-Some-clause-read g c = (
  search rules,
  reads_next (λ bytes. bytes.items) c.args.self.now.reads.items c.args.self.now.next c.len-in-Some.result c.in-Some.bytes.now c.put.new.room
      (drop (length c.as_slice.result.now) c.args.room.now) (search rules) (search rules) (search rules) (search rules),
)
