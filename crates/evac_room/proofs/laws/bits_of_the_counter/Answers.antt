use Rattle.evac_room.proofs.Bits.{bit_63, word_parts, marked_bits}
use Rattle.evac_room.proofs.laws.bits_of_the_counter.Goals as goal

pub returns-clause-bit : goal.returns-clause-bit
returns-clause-bit c = bit_63

pub returns-clause-parts : goal.returns-clause-parts
returns-clause-parts c = word_parts

pub returns-clause-marked : goal.returns-clause-marked
returns-clause-marked c = marked_bits
