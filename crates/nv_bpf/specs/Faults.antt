-- The texts of refusals.
use Rattle.std.specs.Prelude.{ℕ, List, ◌++◌, codes}
use Rattle.std.specs.Fmt.{decimal}
use Rattle.nv_bpf.specs.declared.op.FilterFault.{FilterFault}
use Rattle.nv_bpf.specs.declared.op.FilterFault.TheVariants.{Line, Empty, TooLong, Count, Code, Jump, Scratch, Offset, Zero, Shift, NoReturn, Memory}

abbrev pub filter_text : FilterFault → List ℕ
filter_text (Line n) = codes "line " ++ decimal n
filter_text Empty = codes "empty"
filter_text TooLong = codes "too long"
filter_text Count = codes "count"
filter_text (Code i) = codes "code " ++ decimal i
filter_text (Jump i) = codes "jump " ++ decimal i
filter_text (Scratch i) = codes "scratch " ++ decimal i
filter_text (Offset i) = codes "offset " ++ decimal i
filter_text (Zero i) = codes "zero " ++ decimal i
filter_text (Shift i) = codes "shift " ++ decimal i
filter_text NoReturn = codes "no return"
filter_text Memory = codes "memory"
