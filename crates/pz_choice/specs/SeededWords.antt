-- The words that a seed makes. The generator is PCG32 (XSH RR, 64 bits of state, words of 32 bits):
-- a seed of 16 bytes is expanded from the number, half of it the state and half the increment.
use Rattle.std.specs.Prelude.{ℕ, zero, suc}
use Rattle.rand_core.specs.Pcg32Seed.{pcg32_seed}
use Rattle.rand_pcg.specs.Lcg.{Lcg}
use Rattle.rand_pcg.specs.Pcg.{pcg32, pcg32_of_seed}

-- the generator of a seed, once so many words have been drawn
abbrev pub generator_after : ℕ → ℕ → Lcg
generator_after seed zero = pcg32_of_seed (pcg32_seed 16 seed)
generator_after seed (suc j) = (pcg32 (generator_after seed j)).1

-- its word of this number, from 0
abbrev pub word : ℕ → ℕ → ℕ
word seed j = (pcg32 (generator_after seed j)).0
