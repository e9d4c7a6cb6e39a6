-- The laws of every large run.
use Rattle.std.proofs.Common.{ℕ, ◌<◌, []}
use Rattle.nv_guest.specs.Load.{first_machine}
use Rattle.nv_guest.specs.Block.{all_arguments}
use Rattle.nv_gen.specs.Made.{numbers_of, course}
use Rattle.nv_gen.specs.Versions.{program_at, KeepsItsCourse, FitsTheDefault}
use Rattle.nv_gen.proofs.Sizes.{numbers-small, part}
use Rattle.nv_gen.proofs.Loading.{does-loaded, ready-default}

pub keeps_its_course : (n version : ℕ) → version < (numbers_of n).versions → KeepsItsCourse n version
keeps_its_course n version inside arguments size m is ready =
    does-loaded (numbers_of n) (course (numbers_of n) version) arguments size m (numbers-small n) (part (numbers_of n) version (numbers-small n) inside) is ready

pub fits_the_default : (n version : ℕ) → version < (numbers_of n).versions → FitsTheDefault n version
fits_the_default n version inside =
    (first_machine (program_at n version) (all_arguments []) 1048576, ready-default (numbers_of n) (course (numbers_of n) version) (part (numbers_of n) version (numbers-small n) inside).few)
