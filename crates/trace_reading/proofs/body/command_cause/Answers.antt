use Rattle.std.proofs.Common.{◌≡◌, List, length, sym, ap, ◌∙◌, refl}
use Rattle.trace_reading.specs.declared.kind.CommandKind.{CommandKind}
use Rattle.trace_reading.specs.Kinds.{limits}
use Rattle.trace_reading.specs.Causes.{parts_behind, kind_named}
use Rattle.trace_reading.proofs.Words.{no_command_word, no_kind, other_numbers, command_numbers}
use Rattle.trace_reading.proofs.body.command_cause.Goals as goal

pub returns-in_default : goal.returns-in_default
returns-in_default c = sym (no_command_word c.args.version c.args.threads c.args.thread.now _ c.in_default.ensures.words)

pub returns-in_default-kind_among : goal.returns-in_default-kind_among
returns-in_default-kind_among c = sym (no_kind c.args.version c.args.threads c.args.thread.now _ _ _ c.in-Some.ensures.words (sym (c.kind_among.ensures ∙ ap (λ (kind_list : List CommandKind). kind_named kind_list c.in-Some.word.now) c.kinds_of.ensures) ∙ c.in_default-kind_among.is))

pub returns-then-count_words-limits : goal.returns-then-count_words-limits
returns-then-count_words-limits c =
    sym (other_numbers c.args.version c.args.threads c.args.thread.now _ _ _ c.in-Some-kind_among.kind c.in-Some.ensures.words (sym (c.kind_among.ensures ∙ ap (λ (kind_list : List CommandKind). kind_named kind_list c.in-Some.word.now) c.kinds_of.ensures) ∙ c.in-Some-kind_among.is)
    (λ same_count. c.if-count_words-limits.true (c.count_words.ensures ∙ same_count ∙ sym (ap length c.limits.ensures))))

pub returns-in-Some-number_cause : goal.returns-in-Some-number_cause
returns-in-Some-number_cause c =
    let same_count : length (parts_behind 32 c.in-Some.numbers.now) ≡ length (limits c.in-Some-kind_among.kind) = sym c.count_words.ensures ∙ c.if-count_words-limits.false ∙ ap length c.limits.ensures in
    sym (command_numbers c.args.version c.args.threads c.args.thread.now _ _ _ c.in-Some-kind_among.kind c.in-Some.ensures.words (sym (c.kind_among.ensures ∙ ap (λ (kind_list : List CommandKind). kind_named kind_list c.in-Some.word.now) c.kinds_of.ensures) ∙ c.in-Some-kind_among.is) same_count
    ∙ rw (← c.number_cause.ensures, c.in-Some-number_cause.is) refl)

pub returns-in-None : goal.returns-in-None
returns-in-None c =
    let same_count : length (parts_behind 32 c.in-Some.numbers.now) ≡ length (limits c.in-Some-kind_among.kind) = sym c.count_words.ensures ∙ c.if-count_words-limits.false ∙ ap length c.limits.ensures in
    sym (command_numbers c.args.version c.args.threads c.args.thread.now _ _ _ c.in-Some-kind_among.kind c.in-Some.ensures.words (sym (c.kind_among.ensures ∙ ap (λ (kind_list : List CommandKind). kind_named kind_list c.in-Some.word.now) c.kinds_of.ensures) ∙ c.in-Some-kind_among.is) same_count
    ∙ rw (← c.number_cause.ensures, c.in-None.is) (rw (← c.limits-in-None.ensures) (sym c.limits_cause.ensures)))
