-- No configuration is so large that its addresses are not numbers of 32 bits.
use Rattle.std.proofs.Common.{ℕ, ◌+◌, ◌*◌, ◌^◌, ◌<◌, ◌≤◌, arith}
use Rattle.std.proofs.Math.Nat.{mul-le-mul}
use Rattle.heap_words.specs.declared.config.Config.{Config}
use Rattle.heap_words.specs.Words.{Heap, IsWord, heap_size}

pub heap_size_le : (config : Config) → heap_size config ≤ 2147483648
heap_size_le config = omega (arith, mul-le-mul config.in_range.most_regions config.in_range.most_words)

-- where the addresses end
pub end_small : (config : Config) → (config.regions + 1) * config.region_words < 2 ^ 32
end_small config = omega (arith, heap_size_le config, config.in_range.most_words)

-- each address
pub address_small : (config : Config) (address : ℕ) → IsWord config (Heap address) → address < 2 ^ 32
address_small config address heap_word = omega (arith, heap_word.1, end_small config)
