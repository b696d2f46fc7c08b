use Rattle.std.proofs.Common.{◌≡◌, ℕ, refl, sym, ap, ◌∙◌, subst, arith}
use Rattle.std.proofs.lemmas.Bool.{true≢false}
use Rattle.heap_words.specs.declared.config.Config.{Config}
use Rattle.heap_words.specs.Words.{Word, Wait, word_at}
use Rattle.heap_words.specs.Encoding.{object_words, request_shape_in}
use Rattle.image_graph.specs.State.{config_of, memory_of}
use Rattle.image_graph.specs.Make.{AreWithin}
use Rattle.image_graph.proofs.Room.{found_room, found_none, made_within}
use Rattle.image_graph.proofs.image.Image.serve_one.Goals as goal

pub make_object-requires-clause-region : goal.make_object-requires-clause-region
make_object-requires-clause-region c =
    let config = config_of c.args.self.now in
    let memory : Word → ℕ = memory_of c.args.self.now in
    let request : c.word-request.result ≡ memory (Wait c.args.mutator) = c.word-request.ensures.named (Wait c.args.mutator) c.requires.mutator (ap (λ (config : Config). word_at config (Wait c.args.mutator)) (sym c.config-config.ensures) ∙ sym c.wait_at.ensures) in
    let words_are : c.words_of.result ≡ object_words (request_shape_in (memory (Wait c.args.mutator))) = c.words_of.ensures ∙ ap object_words (c.request_shape.ensures ∙ ap request_shape_in request) in
    (found_room config memory c.words_of.result (object_words (request_shape_in (memory (Wait c.args.mutator)))) c.in-Some.region c.room_for.result c.room_for.ensures words_are c.in-Some.is).below

pub make_object-requires-clause-room : goal.make_object-requires-clause-room
make_object-requires-clause-room c =
    let config = config_of c.args.self.now in
    let memory : Word → ℕ = memory_of c.args.self.now in
    let request : c.word-request.result ≡ memory (Wait c.args.mutator) = c.word-request.ensures.named (Wait c.args.mutator) c.requires.mutator (ap (λ (config : Config). word_at config (Wait c.args.mutator)) (sym c.config-config.ensures) ∙ sym c.wait_at.ensures) in
    let words_are : c.words_of.result ≡ object_words (request_shape_in (memory (Wait c.args.mutator))) = c.words_of.ensures ∙ ap object_words (c.request_shape.ensures ∙ ap request_shape_in request) in
    (found_room config memory c.words_of.result (object_words (request_shape_in (memory (Wait c.args.mutator)))) c.in-Some.region c.room_for.result c.room_for.ensures words_are c.in-Some.is).room

pub returns-in-Some-clause-within : goal.returns-in-Some-clause-within
returns-in-Some-clause-within c =
    let config = config_of c.args.self.now in
    let memory : Word → ℕ = memory_of c.args.self.now in
    let request : c.word-request.result ≡ memory (Wait c.args.mutator) = c.word-request.ensures.named (Wait c.args.mutator) c.requires.mutator (ap (λ (config : Config). word_at config (Wait c.args.mutator)) (sym c.config-config.ensures) ∙ sym c.wait_at.ensures) in
    let words_are : c.words_of.result ≡ object_words (request_shape_in (memory (Wait c.args.mutator))) = c.words_of.ensures ∙ ap object_words (c.request_shape.ensures ∙ ap request_shape_in request) in
    let room_found = found_room config memory c.words_of.result (object_words (request_shape_in (memory (Wait c.args.mutator)))) c.in-Some.region c.room_for.result c.room_for.ensures words_are c.in-Some.is in
    subst (λ (config : Config). AreWithin config (memory_of c.make_object.new.self)) (sym c.make_object.ensures.config)
    (subst (AreWithin config) (sym c.make_object.ensures.words) (made_within config memory c.args.mutator c.in-Some.region c.requires.within room_found.room))

pub returns-in-Some-clause-left : goal.returns-in-Some-clause-left
returns-in-Some-clause-left c =
    let config = config_of c.args.self.now in
    let memory : Word → ℕ = memory_of c.args.self.now in
    let request : c.word-request.result ≡ memory (Wait c.args.mutator) = c.word-request.ensures.named (Wait c.args.mutator) c.requires.mutator (ap (λ (config : Config). word_at config (Wait c.args.mutator)) (sym c.config-config.ensures) ∙ sym c.wait_at.ensures) in
    let words_are : c.words_of.result ≡ object_words (request_shape_in (memory (Wait c.args.mutator))) = c.words_of.ensures ∙ ap object_words (c.request_shape.ensures ∙ ap request_shape_in request) in
    let room_found = found_room config memory c.words_of.result (object_words (request_shape_in (memory (Wait c.args.mutator)))) c.in-Some.region c.room_for.result c.room_for.ensures words_are c.in-Some.is in
    (λ never. absurd (true≢false never), λ no_room. absurd (omega (arith, room_found.room, no_room.1 c.in-Some.region room_found.below)))

pub returns-in-None-clause-left : goal.returns-in-None-clause-left
returns-in-None-clause-left c =
    let config = config_of c.args.self.now in
    let memory : Word → ℕ = memory_of c.args.self.now in
    let request : c.word-request.result ≡ memory (Wait c.args.mutator) = c.word-request.ensures.named (Wait c.args.mutator) c.requires.mutator (ap (λ (config : Config). word_at config (Wait c.args.mutator)) (sym c.config-config.ensures) ∙ sym c.wait_at.ensures) in
    let words_are : c.words_of.result ≡ object_words (request_shape_in (memory (Wait c.args.mutator))) = c.words_of.ensures ∙ ap object_words (c.request_shape.ensures ∙ ap request_shape_in request) in (
      λ _. (
        λ no_request. c.if-request-eq0.false (request ∙ no_request),
        found_none config memory c.words_of.result (object_words (request_shape_in (memory (Wait c.args.mutator)))) c.room_for.result c.room_for.ensures words_are c.in-None.is,
      ),
      λ _. refl,
    )
