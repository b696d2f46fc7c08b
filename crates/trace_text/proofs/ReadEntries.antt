-- The two laws of the reader of an entry's line, and lines of entries one after the other.
use Rattle.std.proofs.lemmas.Option.{same_Some}
use Rattle.std.proofs.Common.{◌≡◌, ℕ, zero, suc, ◌^◌, ◌<◌, ◌≤◌, List, [], ◌∷◌, ◌++◌, length, codes, Option, Some, None, refl, sym, ap, subst, ◌∙◌, append_assoc, arith}
use Rattle.std.specs.Fmt.{decimal}
use Rattle.std.specs.List.{flat_map, AllByRecursion}
use Rattle.std.proofs.lemmas.Fmt.{decimal_nonempty}
use Rattle.std.proofs.lemmas.List.{length-append, append-nil}
use Rattle.std.proofs.lemmas.List.Concat.{flat_map-cons}
use Rattle.std.proofs.lemmas.Grind.{flat_map-append}
use Rattle.shen_graph.specs.History.{Entry}
use Rattle.trace_reading.specs.Spelling.{command_word, numbers, numbers_of}
use Rattle.trace_reading.specs.Scanning.{◌>>=◌, behind, positive_at, spelled_command}
use Rattle.trace_reading.proofs.GrammarNumbers.{then_some, behind_takes, positive_takes, positive_again}
use Rattle.trace_reading.proofs.GrammarLines.{command_takes, command_again_at}
use Rattle.trace_text.specs.Answer.{reply_word}
use Rattle.trace_text.specs.History.{entry_line}
use Rattle.trace_text.specs.Entries.{IsClaim, BeginsWithNoEntry, spelled_reply, entry_at}
use Rattle.trace_text.proofs.ReadReplies.{reply_takes, reply_again}

-- the line of an entry in front of the rest
line-append : (entry : Entry) (rest : List ℕ) → entry_line entry ++ rest ≡ decimal entry.thread ++ 32 ∷ (command_word entry.command ++ (numbers (numbers_of entry.command) ++ (codes " : " ++ (reply_word entry.reply ++ 10 ∷ rest))))
line-append entry rest = simp append_assoc

entry_parts : (bytes gap words after answer reply end rest : List ℕ) (entry : Entry) → bytes ≡ decimal entry.thread ++ gap → gap ≡ 32 ∷ words → words ≡ command_word entry.command ++ (numbers (numbers_of entry.command) ++ after) → after ≡ codes " : " ++ answer → answer ≡ reply_word entry.reply ++ end → end ≡ 10 ∷ rest → bytes ≡ entry_line entry ++ rest
entry_parts bytes gap words after answer reply end rest entry bytes_are gap_is words_are after_is answer_is end_is = rw (bytes_are, gap_is, words_are, after_is, answer_is, end_is) (sym (line-append entry rest))

pub entry_takes : (version threads : ℕ) (bytes : List ℕ) (read_entry : Entry × List ℕ) → threads < 2 ^ 64 → entry_at version threads bytes ≡ Some read_entry → (bytes ≡ entry_line read_entry.0 ++ read_entry.1) × IsClaim version threads read_entry.0
unfolding entry_at
entry_takes version threads bytes read_entry small found =
    then_some (positive_at threads bytes) (λ read_thread. behind (codes " ") read_thread.1 >>= λ words. spelled_command version words >>= λ read_command. behind (codes " : ") read_command.1 >>= λ reply. spelled_reply reply >>= λ read_reply. behind (codes "\n") read_reply.1 >>= λ end. Some (record { thread = read_thread.0; command = read_command.0; reply = read_reply.0 }, end)) read_entry found (λ read_thread at_t from_thread.
    then_some (behind (codes " ") read_thread.1) (λ words. spelled_command version words >>= λ read_command. behind (codes " : ") read_command.1 >>= λ reply. spelled_reply reply >>= λ read_reply. behind (codes "\n") read_reply.1 >>= λ end. Some (record { thread = read_thread.0; command = read_command.0; reply = read_reply.0 }, end)) read_entry from_thread (λ words at_words from_words.
    then_some (spelled_command version words) (λ read_command. behind (codes " : ") read_command.1 >>= λ reply. spelled_reply reply >>= λ read_reply. behind (codes "\n") read_reply.1 >>= λ end. Some (record { thread = read_thread.0; command = read_command.0; reply = read_reply.0 }, end)) read_entry from_words (λ read_command at_c from_command.
    then_some (behind (codes " : ") read_command.1) (λ reply. spelled_reply reply >>= λ read_reply. behind (codes "\n") read_reply.1 >>= λ end. Some (record { thread = read_thread.0; command = read_command.0; reply = read_reply.0 }, end)) read_entry from_command (λ reply at_reply from_reply.
    then_some (spelled_reply reply) (λ read_reply. behind (codes "\n") read_reply.1 >>= λ end. Some (record { thread = read_thread.0; command = read_command.0; reply = read_reply.0 }, end)) read_entry from_reply (λ read_reply at_r from_answer.
    then_some (behind (codes "\n") read_reply.1) (λ end. Some (record { thread = read_thread.0; command = read_command.0; reply = read_reply.0 }, end)) read_entry from_answer (λ end at_end from_end.
    let thread = positive_takes threads bytes read_thread small at_t in
    let command = command_takes version words read_command at_c in
    let answer = reply_takes reply read_reply at_r in
    let made : Entry × List ℕ = (record { thread = read_thread.0; command = read_command.0; reply = read_reply.0 }, end) in
    let spelled : bytes ≡ entry_line made.0 ++ made.1 =
    entry_parts bytes read_thread.1 words read_command.1 reply reply read_reply.1 end made.0 thread.0 (behind_takes (codes " ") read_thread.1 words at_words) command.0 (behind_takes (codes " : ") read_command.1 reply at_reply) answer.0 (behind_takes (codes "\n") read_reply.1 end at_end) in
    subst (λ (given_entry : Entry × List ℕ). (bytes ≡ entry_line given_entry.0 ++ given_entry.1) × IsClaim version threads given_entry.0) (same_Some made read_entry from_end)
    (spelled, record { from_one = thread.1; to_last = thread.2; known = command.1; valid = command.2; fits = command.3; reply = answer.1 })))))))

pub entry_again : (version threads : ℕ) (entry : Entry) (rest : List ℕ) → threads < 2 ^ 64 → IsClaim version threads entry → entry_at version threads (entry_line entry ++ rest) ≡ Some (entry, rest)
unfolding entry_at
entry_again version threads entry rest small fits =
    let answer = reply_word entry.reply ++ 10 ∷ rest in
    let words = command_word entry.command ++ (numbers (numbers_of entry.command) ++ (codes " : " ++ answer)) in
    ap (entry_at version threads) (line-append entry rest)
    ∙ rw (positive_again threads entry.thread (32 ∷ words) fits.from_one fits.to_last small refl, command_again_at version entry.command (codes " : " ++ answer) fits.known fits.valid fits.fits refl, reply_again entry.reply rest fits.reply) refl

-- ---- one after the other

-- what was not read is no line of an entry
pub none_read : (version threads : ℕ) (bytes : List ℕ) → threads < 2 ^ 64 → entry_at version threads bytes ≡ None → BeginsWithNoEntry version threads bytes
none_read version threads bytes small none_found entry rest fits spelled = let read_again = entry_again version threads entry rest small fits in let read_here = ap (entry_at version threads) spelled in cc

some_bytes : (version threads : ℕ) (entry : Entry) → threads < 2 ^ 64 → IsClaim version threads entry → 1 ≤ length (entry_line entry)
some_bytes version threads entry small fits =
    let some_digit = decimal_nonempty entry.thread (omega (arith, fits.to_last, small)) in
    omega (arith, some_digit, length-append (decimal entry.thread) (32 ∷ ((command_word entry.command ++ numbers (numbers_of entry.command)) ++ (codes " : " ++ (reply_word entry.reply ++ 10 ∷ [])))))

pub nothing_read : (version threads : ℕ) → threads < 2 ^ 64 → BeginsWithNoEntry version threads []
nothing_read version threads small entry rest fits spelled = let some_byte = some_bytes version threads entry small fits in let size = ap length spelled in omega (arith, some_byte, size, length-append (entry_line entry) rest)

front : (entry : Entry) (entries : List Entry) (rest : List ℕ) → flat_map entry_line (entry ∷ entries) ++ rest ≡ entry_line entry ++ (flat_map entry_line entries ++ rest)
front entry entries rest = ap (λ (given_bytes : List ℕ). given_bytes ++ rest) (flat_map-cons entry_line entry entries) ∙ append_assoc (entry_line entry) (flat_map entry_line entries) rest

-- one entry more at the end
pub all_more : (version threads : ℕ) (entries : List Entry) (entry : Entry) → AllByRecursion (IsClaim version threads) entries → IsClaim version threads entry → AllByRecursion (IsClaim version threads) (entries ++ entry ∷ [])
all_more version threads [] entry all_claims fits = (fits, tt)
all_more version threads (first_entry ∷ entries) entry all_claims fits = (all_claims.0, all_more version threads entries entry all_claims.1 fits)

pub spelled_more : (entries : List Entry) (entry : Entry) (bytes rest after : List ℕ) → bytes ≡ flat_map entry_line entries ++ rest → rest ≡ entry_line entry ++ after → bytes ≡ flat_map entry_line (entries ++ entry ∷ []) ++ after
spelled_more entries entry bytes rest after bytes_are rest_is =
    bytes_are ∙ ap (λ (given_bytes : List ℕ). flat_map entry_line entries ++ given_bytes) rest_is ∙ sym (append_assoc (flat_map entry_line entries) (entry_line entry) after)
    ∙ ap (λ (given_bytes : List ℕ). given_bytes ++ after) (sym (flat_map-append entry_line entries (entry ∷ []) ∙ ap (λ (given_bytes : List ℕ). flat_map entry_line entries ++ given_bytes) (flat_map-cons entry_line entry [] ∙ append-nil (entry_line entry))))

-- entries with no other line behind them are the same
pub entries_once : (version threads : ℕ) (entries other_entries : List Entry) (rest after : List ℕ) → threads < 2 ^ 64 → AllByRecursion (IsClaim version threads) entries → AllByRecursion (IsClaim version threads) other_entries → BeginsWithNoEntry version threads rest → BeginsWithNoEntry version threads after
    → flat_map entry_line entries ++ rest ≡ flat_map entry_line other_entries ++ after → (entries ≡ other_entries) × (rest ≡ after)
entries_once version threads [] [] rest after small all_xs all_ys begins_with_no_entry no_entry_after both_same = (refl, both_same)
entries_once version threads [] (entry ∷ entries) rest after small all_xs all_ys begins_with_no_entry no_entry_after both_same = absurd (begins_with_no_entry entry (flat_map entry_line entries ++ after) all_ys.0 (both_same ∙ front entry entries after))
entries_once version threads (entry ∷ entries) [] rest after small all_xs all_ys begins_with_no_entry no_entry_after both_same = absurd (no_entry_after entry (flat_map entry_line entries ++ rest) all_xs.0 (sym both_same ∙ front entry entries rest))
entries_once version threads (entry ∷ entries) (other_entry ∷ other_entries) rest after small all_xs all_ys begins_with_no_entry no_entry_after bytes_same =
    let first_read : Entry × List ℕ = (entry, flat_map entry_line entries ++ rest) in
    let second_read : Entry × List ℕ = (other_entry, flat_map entry_line other_entries ++ after) in
    let both_same : first_read ≡ second_read = same_Some first_read second_read (sym (entry_again version threads entry (flat_map entry_line entries ++ rest) small all_xs.0) ∙ ap (entry_at version threads) (sym (front entry entries rest) ∙ bytes_same ∙ front other_entry other_entries after) ∙ entry_again version threads other_entry (flat_map entry_line other_entries ++ after) small all_ys.0) in
    let others = entries_once version threads entries other_entries rest after small all_xs.1 all_ys.1 begins_with_no_entry no_entry_after (ap (λ (given_read : Entry × List ℕ). given_read.1) both_same) in
    (ap (λ (given_read : Entry × List ℕ). given_read.0 ∷ entries) both_same ∙ ap (λ (given_entries : List Entry). other_entry ∷ given_entries) others.0, others.1)

-- bytes are some entries, and something that begins with none
pub record HasEntries (version threads : ℕ) (bytes : List ℕ) : Type 0 where
  pub entries : List Entry
  pub rest : List ℕ
  pub in_range : AllByRecursion (IsClaim version threads) entries
  pub spelled : bytes ≡ flat_map entry_line entries ++ rest
  pub none : BeginsWithNoEntry version threads rest

pub entries_of : (bound version threads : ℕ) (bytes : List ℕ) → threads < 2 ^ 64 → length bytes ≤ bound → HasEntries version threads bytes
entries_of zero version threads [] small bytes_bound = record { entries = []; rest = []; in_range = tt; spelled = refl; none = nothing_read version threads small }
entries_of zero version threads (byte ∷ bytes) small bytes_bound = absurd (omega (arith, bytes_bound))
entries_of (suc bound) version threads bytes small bytes_bound = by_first (entry_at version threads bytes) refl (λ rest fewer. entries_of bound version threads rest small fewer)
  where
    by_first : (first_read : Option (Entry × List ℕ)) → entry_at version threads bytes ≡ first_read → ((rest : List ℕ) → length rest ≤ bound → HasEntries version threads rest) → HasEntries version threads bytes
    by_first None at_first read_shorter = record { entries = []; rest = bytes; in_range = tt; spelled = refl; none = none_read version threads bytes small at_first }
    by_first (Some read_entry) at_first read_shorter =
        let took = entry_takes version threads bytes read_entry small at_first in
        let some_byte = some_bytes version threads read_entry.0 small took.1 in
        let others = read_shorter read_entry.1 (let size = ap length took.0 in omega (arith, some_byte, size, bytes_bound, length-append (entry_line read_entry.0) read_entry.1)) in
        record {
          entries = read_entry.0 ∷ others.entries;
          rest = others.rest;
          in_range = (took.1, others.in_range);
          spelled = took.0 ∙ ap (λ (given_bytes : List ℕ). entry_line read_entry.0 ++ given_bytes) others.spelled ∙ sym (front read_entry.0 others.entries others.rest);
          none = others.none;
        }

-- what is behind an entry is shorter
pub entry_shorter : (version threads : ℕ) (entry : Entry) (rest behind : List ℕ) → threads < 2 ^ 64 → IsClaim version threads entry → rest ≡ entry_line entry ++ behind → length behind < length rest
entry_shorter version threads entry rest behind small fits spelled = let some_byte = some_bytes version threads entry small fits in let size = ap length spelled in omega (arith, some_byte, size, length-append (entry_line entry) behind)
