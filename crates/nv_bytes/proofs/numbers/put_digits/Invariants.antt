use Rattle.std.proofs.Common.{◌≡◌, ◌<◌, ◌+◌, ◌++◌, length, drop}
use Rattle.nv_bytes.specs.Numbers.{decimal_of}
use Rattle.nv_bytes.proofs.numbers.put_digits.Given as goal

-- the digits of the rest belong before those written
abbrev pub invariant-loop-rest : goal.invariant-loop-rest
invariant-loop-rest l = record {
  text : decimal_of l.value ≡ decimal_of l.rest ++ drop (l.place + 1) l.out;
  room : length (decimal_of l.rest) ≡ l.place + 1;
  inside : l.place < length l.out;
  all : length l.out ≡ length (decimal_of l.value);
}

abbrev pub decreases-loop-rest : goal.decreases-loop-rest
decreases-loop-rest l = l.rest
