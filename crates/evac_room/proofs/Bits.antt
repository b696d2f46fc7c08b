-- The counter by its bits.
use Rattle.std.proofs.Common.{◌≡◌, ◌<◌, ◌^◌, ℕ, true, arith}
use Rattle.std.specs.Prelude.{◌-◌, ◌+◌, ◌*◌, ◌↔◌, bit_or}
use Rattle.std.specs.Int.{bit_at}
use Rattle.std.specs.Int.Bits.{or_add_and}
use Rattle.std.proofs.lemmas.Bool.Decides.{nat_tests}
use Rattle.std.proofs.lemmas.Nat.Bits.{and_pow}
use Rattle.heap_words.specs.Counter.{count_of, is_out_of_room, marked}

pub bit_63 : (word : ℕ) → word < 2 ^ 64 → (is_out_of_room word ≡ true) ↔ (bit_at word 63 ≡ 1)
bit_63 word word_below = (λ out_of_room. grind (arith, nat_tests), λ bit. grind (arith, nat_tests))

pub word_parts : (word : ℕ) → word < 2 ^ 64 → word ≡ bit_at word 63 * 2 ^ 63 + count_of word
word_parts word word_below = omega arith

pub marked_bits : (word : ℕ) → word < 2 ^ 64 → marked word ≡ bit_or word (2 ^ 63) - 1
marked_bits word word_below = omega (arith, and_pow word 63, or_add_and word (2 ^ 63))
