-- The instructions of the programs have words.
use Rattle.std.proofs.Common.{ℕ, ◌<◌, refl, arith}
use Rattle.std.proofs.lemmas.Int.{ints}
use Rattle.nv_isa.specs.Table.{encoding}
use Rattle.nv_isa.specs.Spelling.{HasWord}
use Rattle.nv_gen.specs.Programs.{sets, points, ecall, ebreak}

pub fits-sets : (rd value : ℕ) → rd < 32 → value < 2048 → HasWord (sets rd value)
unfolding encoding
fits-sets rd value small low = record { registers = (small, omega arith, refl); immediate = record { least = grind (arith, ints); most = grind (arith, ints) } }

pub fits-points : (rd : ℕ) → rd < 32 → HasWord (points rd)
unfolding encoding
fits-points rd small = record { registers = (small, refl, refl); immediate = (record { least = grind (arith, ints); most = grind (arith, ints) }, refl) }

pub fits-ecall : HasWord ecall
unfolding encoding
fits-ecall = record { registers = (refl, refl, refl); immediate = refl }

pub fits-ebreak : HasWord ebreak
unfolding encoding
fits-ebreak = record { registers = (refl, refl, refl); immediate = refl }

pub ruleset fitting = (fits-sets, fits-points, fits-ecall, fits-ebreak)
