-- What the access of a machine does to the word of the copiers and to the words of pieces, once it is known what it writes.
use Rattle.std.proofs.Common.{◌≡◌, ◌≢◌, ℕ, ◌⊎◌, inl, inr, ⊎_elim, ◌+◌, ◌<◌, ◌≤◌, true, false, Option, Some, None, refl, sym, ap, ◌∙◌, subst, arith}
use Rattle.std.specs.Prelude.{◌==◌, if◌then◌else◌}
use Rattle.std.proofs.lemmas.Option.{same_Some, none-some}
use Rattle.std.proofs.lemmas.Bool.{cases_Bool, cond-true, cond-false, false≢true, ne_eqb, eq-eqb}
use Rattle.heap_words.specs.declared.config.Config.{Config}
use Rattle.heap_words.specs.declared.access.Access.{Access}
use Rattle.heap_words.specs.Encoding.{plain_header, header_word, is_forwarded}
use Rattle.heap_words.specs.Words.{Word, Cset, Evac, Top, Heap, same_word, word_at}
use Rattle.heap_words.specs.Counter.{IsQuiet}
use Rattle.heap_words.proofs.Stores.{same_word_true}
use Rattle.heap_words.specs.Touch.{Touch, loads, exchanges, formed, access_at, placed, touched}
use Rattle.shen_graph.specs.declared.name.Name.{Name}
use Rattle.load_barrier.proofs.Knows.{header_forwarded}
use Rattle.heap_world.specs.World.{World, Block, thing, moved, spent, hand, promised, dead, filler, spare, carved, words_of, room_of, Body, body_at, IsCollected, TargetIn, Shared}
use Rattle.heap_world.proofs.Apart.{one_piece}
use Rattle.heap_world.proofs.Pointing.{copy_cases, body_piece}
use Rattle.cycle_runs.specs.Evacuation.Runs.{IsPublishing}
use Rattle.cycle_runs.specs.Evacuation.OneEvent.{IsNoRoom, IsLeftAlone}
use Rattle.cycle_runs.proofs.Evacuation.Writes.{is_watched, IsPublication, Writes}

-- a copy is no room
pub body_no_room : (found : Option Block) (body : Body) → body_at found ≡ Some body → (piece : Block) → found ≡ Some piece → IsNoRoom piece
body_no_room (Some (thing name refs nums)) body body_is piece piece_is = subst IsNoRoom (same_Some (thing name refs nums) piece piece_is) tt
body_no_room (Some (moved name refs nums copy_address)) body body_is piece piece_is = subst IsNoRoom (same_Some (moved name refs nums copy_address) piece piece_is) tt
body_no_room (Some (spent words copy_address)) body body_is piece piece_is = cc
body_no_room (Some (hand seat words)) body body_is piece piece_is = cc
body_no_room (Some (promised seat words)) body body_is piece piece_is = cc
body_no_room (Some (dead words)) body body_is piece piece_is = cc
body_no_room (Some (filler words)) body body_is piece piece_is = cc
body_no_room (Some (spare seat words)) body body_is piece piece_is = cc
body_no_room (Some (carved seat words)) body body_is piece piece_is = cc
body_no_room None body body_is piece piece_is = cc

-- and room is room
room_is_room : (seat : ℕ) (piece : Block) → room_of piece ≡ Some seat → IsNoRoom piece → ⊥
room_is_room seat (hand room_seat words) piece_is_room no_room = no_room
room_is_room seat (spare room_seat words) piece_is_room no_room = no_room
room_is_room seat (carved room_seat words) piece_is_room no_room = no_room
room_is_room seat _ piece_is_room no_room = none-some seat piece_is_room

-- an exchange that publishes a copy, as an access of the table
unfoldable pub publishing : (config : Config) (world : World) (seat address : ℕ) (body : Body) (touch : Touch) (access : Access) → access ≡ placed config touch → IsPublication config world seat address body touch → IsPublishing config world seat address body access
publishing config world seat address body touch access plan published = record {
  copy = published.copy;
  end = published.end;
  is = plan ∙ ap (λ f. access_at (word_at config touch.word) f) published.form ∙ ap (λ word. access_at (word_at config word) (exchanges plain_header (header_word published.copy))) published.word;
  copied = published.copied;
  plain = published.plain;
}

-- an access leaves all words but its own as they are, and its own where it loads
pub touched_else : (memory : Word → ℕ) (touch : Touch) (word : Word) → (touch.word ≡ word → ⊥) → touched memory touch word ≡ memory word
touched_else memory touch word other_word = ⊎_elim
    (λ (same_name : same_word touch.word word ≡ true). absurd (other_word (same_word_true touch.word word same_name)))
    (λ (words_differ : same_word touch.word word ≡ false). cond-false (same_word touch.word word) _ _ words_differ)
    (cases_Bool (same_word touch.word word))

pub touched_loads : (memory : Word → ℕ) (touch : Touch) (word : Word) → touch.form ≡ loads → touched memory touch word ≡ memory word
touched_loads memory touch word form = ⊎_elim
    (λ (same_name : same_word touch.word word ≡ true).
    cond-true (same_word touch.word word) _ _ same_name ∙ ap (λ f. formed f (memory touch.word)) form ∙ ap memory (same_word_true touch.word word same_name))
    (λ (words_differ : same_word touch.word word ≡ false). cond-false (same_word touch.word word) _ _ words_differ)
    (cases_Bool (same_word touch.word word))

-- What an access does that is of a word of a piece which is no room: it loads it; it publishes a copy, and the word is the header;
-- or it writes behind the shape and the name of a current copy, which may be used, or lies outside the collection set.
pub data Hits (config : Config) (world : World) (seat : ℕ) (touch : Touch) (Work : Type 0) (address k : ℕ) (piece : Block) : Type 0 where
  loads_it : touch.form ≡ loads → Hits config world seat touch Work address k piece
  header : (body : Body) → IsPublication config world seat address body touch → k ≡ 0 → Hits config world seat touch Work address k piece
  used : (refs nums : ℕ) (name : Name) → piece ≡ thing name refs nums → 3 ≤ k → TargetIn config world address refs nums name → Work → Hits config world seat touch Work address k piece
  renewed : (refs nums : ℕ) (name : Name) → piece ≡ thing name refs nums → 3 ≤ k → (IsCollected config (world.memory Cset) address → ⊥) → Hits config world seat touch Work address k piece

module _ (config : Config) (world : World) (shared : Shared config world) (seat : ℕ) (touch : Touch) (Work : Type 0) where
  -- once nobody copies any more, it stays so
  pub quiet_stays : Writes config world seat touch Work → IsQuiet (world.memory Evac) → IsQuiet (touched world.memory touch Evac)
  quiet_stays (Writes.only_loads form) quiet = subst IsQuiet (sym (touched_loads world.memory touch Evac form)) quiet
  quiet_stays (Writes.elsewhere unwatched) quiet = subst IsQuiet (sym (touched_else world.memory touch Evac (λ word_is. false≢true (sym unwatched ∙ ap is_watched word_is)))) quiet
  quiet_stays (Writes.counts word stays) quiet = stays quiet
  quiet_stays (Writes.fills written_address offset filled_piece piece_there room within word) quiet = subst IsQuiet (sym (touched_else world.memory touch Evac (λ word_is. let both_words = sym word ∙ word_is in cc))) quiet
  quiet_stays (Writes.publishes written_address body published) quiet = subst IsQuiet (sym (touched_else world.memory touch Evac (λ word_is. let both_words = sym published.word ∙ word_is in cc))) quiet
  quiet_stays (Writes.works written_address offset refs nums name target from within word writes) quiet = subst IsQuiet (sym (touched_else world.memory touch Evac (λ word_is. let both_words = sym word ∙ word_is in cc))) quiet
  quiet_stays (Writes.renews renewed_address offset refs nums name word_is left_out from within word) quiet = subst IsQuiet (sym (touched_else world.memory touch Evac (λ word_same. let both_words = sym word ∙ word_same in cc))) quiet

  module _ (piece_address offset : ℕ) (other_piece : Block) (piece_there : world.block piece_address ≡ Some other_piece) (offset_below : offset < words_of other_piece) where
    -- one word of the heap has one address
    one_address : (address other_address : ℕ) → Heap address ≡ Heap other_address → address ≡ other_address
    one_address address other_address equal_words = cc

    -- the piece of another address that has the word is this one
    one_here : (address own_offset : ℕ) (piece : Block) → world.block address ≡ Some piece → own_offset < words_of piece → address + own_offset ≡ piece_address + offset → piece_address ≡ address
    one_here address own_offset piece own_there offset_within same_place =
        one_piece config (λ region. world.memory (Top region)) world.block shared.parsable.plotted piece_address address (piece_address + offset) other_piece piece piece_there own_there (omega arith) (omega (arith, offset_below)) (omega (arith, same_place)) (omega (arith, same_place, offset_within))

    same_piece : (address : ℕ) (piece : Block) → world.block address ≡ Some piece → piece_address ≡ address → other_piece ≡ piece
    same_piece address piece own_there same_address = same_Some other_piece piece (sym piece_there ∙ ap world.block same_address ∙ own_there)

    pub hits : Writes config world seat touch Work → IsNoRoom other_piece → touch.word ≡ Heap (piece_address + offset) → Hits config world seat touch Work piece_address offset other_piece
    hits (Writes.only_loads form) no_room word = Hits.loads_it form
    hits (Writes.elsewhere unwatched) no_room word = absurd (false≢true (sym unwatched ∙ ap is_watched word))
    hits (Writes.counts evac stays) no_room word = absurd (let both_words = sym evac ∙ word in cc)
    hits (Writes.fills address own_offset piece own_there room within own_word) no_room word =
        let same_address = one_here address own_offset piece own_there within (one_address (address + own_offset) (piece_address + offset) (sym own_word ∙ word)) in
        absurd (room_is_room seat other_piece (ap room_of (same_piece address piece own_there same_address) ∙ room) no_room)
    hits (Writes.publishes own_address body published) no_room word =
        let piece = body_piece (world.block own_address) body published.there in
        let long_piece = piece.2 in
        let address = one_address own_address (piece_address + offset) (sym published.word ∙ word) in
        let same_address = one_here own_address 0 piece.0 piece.1 (omega (arith, long_piece)) (omega (arith, address)) in
        Hits.header body (subst (λ address. IsPublication config world seat address body touch) (sym same_address) published) (omega (arith, address, same_address))
    hits (Writes.works own_address own_offset refs nums name target from within own_word writes) no_room word =
        let address = one_address (own_address + own_offset) (piece_address + offset) (sym own_word ∙ word) in
        let same_address = one_here own_address own_offset (thing name refs nums) target.piece within address in
        Hits.used refs nums name (same_piece own_address (thing name refs nums) target.piece same_address) (omega (arith, address, same_address, from)) (subst (λ address. TargetIn config world address refs nums name) (sym same_address) target) writes
    hits (Writes.renews renewed_address own_offset refs nums name own_there left_out from within own_word) no_room word =
        let address = one_address (renewed_address + own_offset) (piece_address + offset) (sym own_word ∙ word) in
        let same_address = one_here renewed_address own_offset (thing name refs nums) own_there within address in
        Hits.renewed refs nums name (same_piece renewed_address (thing name refs nums) own_there same_address) (omega (arith, address, same_address, from)) (λ address_collected. left_out (subst (λ any_address. IsCollected config (world.memory Cset) any_address) same_address address_collected))

    -- the words behind the header of a piece that is to be left alone stay
    alone_no_room : (piece : Block) → IsLeftAlone config (world.memory Cset) (world.memory Evac) piece_address piece → IsNoRoom piece
    alone_no_room (thing name refs nums) alone = tt
    alone_no_room (moved name refs nums copy_address) alone = tt
    alone_no_room (spent words copy_address) alone = tt
    alone_no_room (hand room_seat words) alone = alone
    alone_no_room (promised room_seat words) alone = tt
    alone_no_room (dead words) alone = tt
    alone_no_room (filler words) alone = tt
    alone_no_room (spare room_seat words) alone = alone
    alone_no_room (carved room_seat words) alone = alone

    left_alone : IsLeftAlone config (world.memory Cset) (world.memory Evac) piece_address other_piece → 1 ≤ offset → Hits config world seat touch Work piece_address offset other_piece → touched world.memory touch (Heap (piece_address + offset)) ≡ world.memory (Heap (piece_address + offset))
    left_alone alone behind_header (Hits.loads_it form) = touched_loads world.memory touch (Heap (piece_address + offset)) form
    left_alone alone behind_header (Hits.header body published no_room) = absurd (omega (arith, behind_header, no_room))
    left_alone alone behind_header (Hits.used refs nums name object from target writes) =
        let both_alone = subst (IsLeftAlone config (world.memory Cset) (world.memory Evac) piece_address) object alone in absurd (both_alone.1 (target.safe both_alone.0))
    left_alone alone behind_header (Hits.renewed refs nums name object from left_out) =
        let both_alone = subst (IsLeftAlone config (world.memory Cset) (world.memory Evac) piece_address) object alone in absurd (left_out both_alone.0)

    pub words_stay : Writes config world seat touch Work → IsLeftAlone config (world.memory Cset) (world.memory Evac) piece_address other_piece → 1 ≤ offset → touched world.memory touch (Heap (piece_address + offset)) ≡ world.memory (Heap (piece_address + offset))
    words_stay writes alone behind_header = ⊎_elim
        (λ (word_touched : same_word touch.word (Heap (piece_address + offset)) ≡ true). left_alone alone behind_header (hits writes (alone_no_room other_piece alone) (same_word_true touch.word (Heap (piece_address + offset)) word_touched)))
        (λ (word_untouched : same_word touch.word (Heap (piece_address + offset)) ≡ false). cond-false (same_word touch.word (Heap (piece_address + offset))) _ _ word_untouched)
        (cases_Bool (same_word touch.word (Heap (piece_address + offset))))

  -- the exchange publishes a copy of an object that has not moved
  pub record IsMade (address : ℕ) : Type 0 where
    pub body : Body
    pub publication : IsPublication config world seat address body touch
    pub object : world.block address ≡ Some (thing body.name body.refs body.nums)
    pub was : world.memory (Heap address) ≡ plain_header
    pub leads : touched world.memory touch (Heap address) ≡ header_word publication.copy

  -- the word at an address after an access of it
  at_address : (address : ℕ) → touch.word ≡ Heap address → touched world.memory touch (Heap address) ≡ formed touch.form (world.memory (Heap address))
  at_address address word = subst (λ any_word. touched world.memory (record { word = any_word; form = touch.form }) (Heap address) ≡ formed touch.form (world.memory (Heap address))) (sym word)
      (cond-true (address == address) (formed touch.form (world.memory (Heap address))) (world.memory (Heap address)) (eq-eqb address address refl))

  by_exchange : (address copy : ℕ) → touch.word ≡ Heap address → touch.form ≡ exchanges plain_header (header_word copy)
      → touched world.memory touch (Heap address) ≡ (if world.memory (Heap address) == plain_header then header_word copy else world.memory (Heap address))
  by_exchange address copy word form = at_address address word ∙ ap (λ f. formed f (world.memory (Heap address))) form

  -- so the header of a copy stays, or the exchange is made
  exchanged : (address : ℕ) (body : Body) → IsPublication config world seat address body touch → (touched world.memory touch (Heap address) ≡ world.memory (Heap address)) ⊎ IsMade address
  exchanged address body published = ⊎_elim
      (λ current.
      let header_plain = (shared.contents.objects.each address body.refs body.nums body.name current).2.header in
      inr (record {
        body = body;
        publication = published;
        object = current;
        was = header_plain;
        leads = by_exchange address published.copy published.word published.form ∙ cond-true (world.memory (Heap address) == plain_header) _ _ (eq-eqb _ _ header_plain);
      }))
      (λ old.
      let leads = (shared.evacuated.moved.moveds address body.refs body.nums old.0 body.name old.1).header in
      let not_plain : world.memory (Heap address) ≢ plain_header = λ header_plain. let differ : false ≡ true = sym (ap is_forwarded header_plain) ∙ ap is_forwarded leads ∙ header_forwarded old.0 in cc in
      inl (by_exchange address published.copy published.word published.form ∙ cond-false (world.memory (Heap address) == plain_header) _ _ (ne_eqb _ _ not_plain)))
      (copy_cases (world.block address) body published.there)

  -- the header of each piece but room in hand stays, or the exchange is made
  pub header_stays : (address : ℕ) (other_piece : Block) → world.block address ≡ Some other_piece → 1 ≤ words_of other_piece → Writes config world seat touch Work → IsNoRoom other_piece → (touched world.memory touch (Heap address) ≡ world.memory (Heap address)) ⊎ IsMade address
  header_stays address other_piece piece_there some_words writes no_room = ⊎_elim
      (λ (word_touched : same_word touch.word (Heap address) ≡ true). by_hit (hits address 0 other_piece piece_there some_words writes no_room (same_word_true touch.word (Heap address) word_touched ∙ ap Heap (omega arith))))
      (λ (word_untouched : same_word touch.word (Heap address) ≡ false). inl (cond-false (same_word touch.word (Heap address)) _ _ word_untouched))
      (cases_Bool (same_word touch.word (Heap address)))
    where
      by_hit : Hits config world seat touch Work address 0 other_piece → (touched world.memory touch (Heap address) ≡ world.memory (Heap address)) ⊎ IsMade address
      by_hit (Hits.loads_it form) = inl (touched_loads world.memory touch (Heap address) form)
      by_hit (Hits.header body published no_room) = exchanged address body published
      by_hit (Hits.used refs nums name object from target writes) = absurd (omega (arith, from))
      by_hit (Hits.renewed refs nums name object from left_out) = absurd (omega (arith, from))
