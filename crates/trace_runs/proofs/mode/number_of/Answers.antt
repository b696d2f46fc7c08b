use Rattle.std.proofs.Common.{ℕ, List, eqb, inl, refl, sym, ap, ◌∙◌, arith}
use Rattle.std.specs.Cmp.Lexicographic.{pointwise}
use Rattle.std.specs.String.{string_bytes}
use Rattle.std.proofs.lemmas.Bool.{false≢true}
use Rattle.trace_runs.proofs.Words.{one_word, three_words, number_named, none_begins, first_word, other_option, numbered_begins}
use Rattle.trace_runs.proofs.mode.number_of.Goals as goal

pub returns-in-len1 : goal.returns-in-len1
returns-in-len1 c =
    let command = c.args.command.now in
    inl (
      (one_word string_bytes c.args.words.now c.word-item.result command c.eq.result c.in-len1.len_at_least c.in-len1.len_below c.word-item.is
          (c.eq.ensures ∙ ap (λ (text : List ℕ). pointwise eqb text command) c.as_str.ensures.value)).0 c.if-eq.true,
      refl,
    )

pub returns-in-len3 : goal.returns-in-len3
returns-in-len3 c =
    let command = c.args.command.now in
    let option = c.args.option.now in
    number_named command option c.args.usual c.args.most _ (string_bytes c.number-item.result) c.number_in.result
    (three_words string_bytes c.args.words.now c.word-item-then-words-lt4.result c.name-item.result c.number-item.result command option c.in-len3.len_at_least c.in-len3.len_below
    c.word-item-then-words-lt4.is c.name-item.is c.number-item.is
    (c.if-eq-2.ensures ∙ ap (λ (text : List ℕ). pointwise eqb text command) c.as_str-then-words-lt4.ensures.value)
    (c.if-eq-3.ensures ∙ ap (λ (text : List ℕ). pointwise eqb text option) c.as_str-then-eq-2.ensures.value))
    (rw (← c.as_bytes.ensures.value) c.number_in.ensures)

pub bounds-words-0 : goal.bounds-words-0
bounds-words-0 c = omega (arith, c.in-len1.len_at_least)

pub bounds-words-0-then-words-lt4 : goal.bounds-words-0-then-words-lt4
bounds-words-0-then-words-lt4 c = omega (arith, c.in-len3.len_at_least)

pub bounds-words-1 : goal.bounds-words-1
bounds-words-1 c = omega (arith, c.in-len3.len_at_least)

pub bounds-words-2 : goal.bounds-words-2
bounds-words-2 c = omega (arith, c.in-len3.len_at_least)

pub returns-in_default : goal.returns-in_default
returns-in_default c = λ asked.
    none_begins string_bytes c.args.words.now c.args.command.now c.in_default.len_below (numbered_begins c.args.command.now c.args.option.now c.args.usual c.args.most _ asked.0 asked.1)

pub returns-in_default-2 : goal.returns-in_default-2
returns-in_default-2 c = λ asked.
    false≢true (sym c.if-eq.false ∙ (first_word string_bytes c.args.words.now c.word-item.result c.args.command.now c.eq.result c.in-len1.len_at_least c.word-item.is
    (c.eq.ensures ∙ ap (λ (text : List ℕ). pointwise eqb text c.args.command.now) c.as_str.ensures.value)).1 (numbered_begins c.args.command.now c.args.option.now c.args.usual c.args.most _ asked.0 asked.1))

pub returns-in_default-4 : goal.returns-in_default-4
returns-in_default-4 c = λ asked.
    other_option string_bytes c.args.command.now c.args.option.now c.args.usual c.args.most c.args.words.now c.name-item.result c.eq-then-eq-2.result (omega (arith, c.in-len3.len_at_least)) c.name-item.is
    (c.eq-then-eq-2.ensures ∙ ap (λ (text : List ℕ). pointwise eqb text c.args.option.now) c.as_str-then-eq-2.ensures.value) c.if-eq-3.false asked.0 asked.1

pub returns-in_default-5 : goal.returns-in_default-5
returns-in_default-5 c = λ asked.
    false≢true (sym c.if-eq-2.false ∙ (first_word string_bytes c.args.words.now c.word-item-then-words-lt4.result c.args.command.now c.eq-then-words-lt4.result (omega (arith, c.in-len3.len_at_least)) c.word-item-then-words-lt4.is
    (c.eq-then-words-lt4.ensures ∙ ap (λ (text : List ℕ). pointwise eqb text c.args.command.now) c.as_str-then-words-lt4.ensures.value)).1 (numbered_begins c.args.command.now c.args.option.now c.args.usual c.args.most _ asked.0 asked.1))
