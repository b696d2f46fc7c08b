-- How what is put one piece after the other comes to stand in a sink and the block before it.
use Rattle.std.proofs.Common.{◌≡◌, ℕ, ◌+◌, ◌≤◌, true, false, List, [], ◌++◌, Option, Ok, Err, length, length-append, sym, ap, ◌∙◌, refl, subst, append_assoc, append-nil, arith}
use Rattle.std.specs.Prelude.{Result, is_err}
use Rattle.std.specs.Io.KnownBytes.{Appends}
use Rattle.std.proofs.KnownBytes.{Appends-nil, Appends-trans}
use Rattle.shen_base.specs.Count.{Rose, CalledAtMost}
use Rattle.shen_base.specs.Sending.{Outlet, outlet, Held, SinkStage, stage, WritesFront, WritesUpTo, HasTaken, Puts, Writes}

-- one text was put, and then another
pub puts_both : {a b c : SinkStage} {x y : List ℕ} → Puts a b x → Puts b c y → Puts a c (x ++ y)
puts_both {a} {b} {c} {x} {y} first_puts second_puts = record {
  behind = λ first sofar taken.
      subst (HasTaken c first) (append_assoc sofar x y) (second_puts.behind first (sofar ++ x) (first_puts.behind first sofar taken));
}

-- an equal text was put
pub puts_same : {a b : SinkStage} {x y : List ℕ} → x ≡ y → Puts a b x → Puts a b y
puts_same {a} {b} {x} {y} texts_equal puts = record {
  behind = λ first sofar taken. subst (λ text. HasTaken b first (sofar ++ text)) texts_equal (puts.behind first sofar taken);
}

-- a front of a text is one of a longer text
front_longer : {before after : Outlet} {x : List ℕ} (later_text : List ℕ) → WritesFront before after x → WritesFront before after (x ++ later_text)
front_longer later_text writes_front = record {
  sent = writes_front.sent;
  rest = writes_front.rest ++ later_text;
  appended = writes_front.appended;
  split = sym (append_assoc writes_front.sent writes_front.rest later_text) ∙ ap (λ text. text ++ later_text) writes_front.split;
  few_calls = writes_front.few_calls;
}

-- a longer text allows as many calls
few_longer : (before after : ℕ) (text later_text : List ℕ) → CalledAtMost (length text) before after → CalledAtMost (length (text ++ later_text)) before after
few_longer before after text later_text few = omega (arith, length-append text later_text)

-- after a fault, whatever is put is ignored
pub puts_more_stopped : (start end : SinkStage) (text later_text : List ℕ) → end.block.failed ≡ true → Puts start end text → Puts start end (text ++ later_text)
puts_more_stopped start end text later_text failed puts = record {
  behind = λ first sofar has_taken.
      let taken : HasTaken end first (sofar ++ text) = puts.behind first sofar has_taken in
      let going : end.block.failed ≡ false → WritesUpTo first end.sink (sofar ++ (text ++ later_text)) end.block.unsent = λ f. cc in
      record {
        never_fell = taken.never_fell;
        going = going;
        stopped = λ f. (subst (WritesFront first end.sink) (append_assoc sofar text later_text) (front_longer later_text (taken.stopped f).0), (taken.stopped f).1);
        few_calls =
            subst (λ any_text. CalledAtMost (length any_text) first.calls (end.sink.calls + length end.block.unsent)) (append_assoc sofar text later_text)
            (few_longer first.calls (end.sink.calls + length end.block.unsent) (sofar ++ text) later_text taken.few_calls);
      };
}

-- the bytes that go into the block allow a call each
few_kept : (before calls : ℕ) (unsent sofar piece : List ℕ) → CalledAtMost (length sofar) before (calls + length unsent) → CalledAtMost (length (sofar ++ piece)) before (calls + length (unsent ++ piece))
few_kept before calls unsent sofar piece few = omega (arith, length-append sofar piece, length-append unsent piece)

-- the bytes that were sent took their calls
few_sent : (first_calls before after : ℕ) (unsent held_bytes sofar : List ℕ) → held_bytes ≡ [] → CalledAtMost (length sofar) first_calls (before + length unsent) → CalledAtMost (length unsent) before after
    → CalledAtMost (length (sofar ++ [])) first_calls (after + length held_bytes)
few_sent first_calls before after unsent held_bytes sofar emptied taken few = rw (append-nil, emptied) (omega (arith, taken, few))

-- first the calls for one text, and then those for another
few_both : (first_calls before after : ℕ) (text later_text : List ℕ) → CalledAtMost (length text) first_calls before → CalledAtMost (length later_text) before after → CalledAtMost (length (text ++ later_text)) first_calls after
few_both first_calls before after text later_text few later_calls = omega (arith, length-append text later_text)

-- the same, and one call more
few_and_one : (first_calls before after : ℕ) (text later_text : List ℕ) → CalledAtMost (length text) first_calls before → CalledAtMost (length later_text + 1) before after → CalledAtMost (length (text ++ later_text) + 1) first_calls after
few_and_one first_calls before after text later_text few later_calls = omega (arith, length-append text later_text)

-- a count that never fell rose
pub rose_later : (before middle after : ℕ) → before ≤ middle → Rose middle after → Rose before after
rose_later before middle after rose_first rose = grind arith

-- bytes went into the block
pub puts_kept : (found : Option (List ℕ)) (faults calls : ℕ) (held : Held) (piece : List ℕ) → Puts (stage found faults calls held) (stage found faults calls (record held { unsent = held.unsent ++ piece })) piece
puts_kept found faults calls held piece = record {
  behind = λ first sofar has_taken. record {
    never_fell = has_taken.never_fell;
    going = λ failed_test. record {
      sent = (has_taken.going failed_test).sent;
      appended = (has_taken.going failed_test).appended;
      split = sym (append_assoc (has_taken.going failed_test).sent held.unsent piece) ∙ ap (λ text. text ++ piece) (has_taken.going failed_test).split;
      few_calls = (has_taken.going failed_test).few_calls;
    };
    stopped = λ failed_test. (front_longer piece (has_taken.stopped failed_test).0, (has_taken.stopped failed_test).1);
    few_calls = few_kept first.calls calls held.unsent sofar piece has_taken.few_calls;
  };
}

-- an empty block before a sink, of which nothing was asked
taken_none : (found : Option (List ℕ)) (faults calls : ℕ) → HasTaken (stage found faults calls (record { unsent = []; failed = false })) (outlet found faults calls) []
taken_none found faults calls =
    let stopped : false ≡ true → WritesFront (outlet found faults calls) (outlet found faults calls) [] × Rose faults faults = λ failed_test. cc in
    record {
      never_fell = omega arith;
      going = λ failed_test. record { sent = []; appended = Appends-nil found; split = refl; few_calls = omega arith };
      stopped = stopped;
      few_calls = omega arith;
    }

-- the text that was taken, where nothing is left in the block and there was no fault
taken_all : (end : SinkStage) (first : Outlet) (text : List ℕ) → end.block.failed ≡ false → end.block.unsent ≡ [] → HasTaken end first text → Appends first.written end.sink.written text
taken_all end first text not_failed emptied has_taken =
    let written_all = has_taken.going not_failed in
    subst (Appends first.written end.sink.written) (sym (append-nil written_all.sent) ∙ ap (λ any_text. written_all.sent ++ any_text) (sym emptied) ∙ written_all.split) written_all.appended

-- the stage behind one where nothing more was put
pub taken_still : {a b : SinkStage} {first : Outlet} {text : List ℕ} → Puts a b [] → HasTaken a first text → HasTaken b first text
taken_still {a} {b} {first} {text} puts taken = subst (HasTaken b first) (append-nil text) (puts.behind first text taken)

-- the calls of a sink, where a block before it has taken a text
few_taken : (end : SinkStage) (first : Outlet) (text : List ℕ) → HasTaken end first text → CalledAtMost (length text) first.calls end.sink.calls
few_taken end first text has_taken = omega (arith, has_taken.few_calls)

-- an emptied block at the end, with no fault
pub writes_all : {F : Type 0} (end : SinkStage) (first : Outlet) (text : List ℕ) → end.block.failed ≡ false → end.block.unsent ≡ [] → HasTaken end first text
    → Writes {T = Unit {0}} {E = F} (Ok tt) first end.sink text
writes_all end first text not_failed emptied has_taken = record {
  all = taken_all end first text not_failed emptied has_taken;
  front = tt;
  only_by_fault = tt;
  faults_never_fall = has_taken.never_fell;
  few_calls = few_taken end first text has_taken;
}

-- a block at the end, after a fault
pub writes_front : {F : Type 0} (fault : F) (end : SinkStage) (first : Outlet) (text : List ℕ) → end.block.failed ≡ true → HasTaken end first text
    → Writes {T = Unit {0}} {E = F} (Err fault) first end.sink text
writes_front fault end first text failed has_taken = record {
  all = tt;
  front = (has_taken.stopped failed).0;
  only_by_fault = (has_taken.stopped failed).1;
  faults_never_fall = has_taken.never_fell;
  few_calls = few_taken end first text has_taken;
}

-- nothing was taken by an empty block, and then this text was put
pub taken_by_new : {w : Option (List ℕ)} {f c : ℕ} {held : Held} {s : SinkStage} {text : List ℕ} → held ≡ record { unsent = []; failed = false } → Puts (stage w f c held) s text → HasTaken s (outlet w f c) text
taken_by_new {w} {f} {c} {held} {s} {text} empty puts = puts.behind (outlet w f c) [] (subst (λ any_held. HasTaken (stage w f c any_held) (outlet w f c) []) (sym empty) (taken_none w f c))

-- a turn of putting: some was put, then the block was emptied or not, and then it took a piece
pub puts_turn : (start : SinkStage) (found new_sent : Option (List ℕ)) (faults new_faults calls new_calls : ℕ) (before held after : Held) (done piece : List ℕ)
    → Puts start (stage found faults calls before) done → Puts (stage found faults calls before) (stage new_sent new_faults new_calls held) [] → after ≡ record held { unsent = held.unsent ++ piece }
    → Puts start (stage new_sent new_faults new_calls after) (done ++ piece)
puts_turn start found new_sent faults new_faults calls new_calls before held after done piece puts emptied piece_held =
    let cleared : Puts start (stage new_sent new_faults new_calls held) done = puts_same (append-nil done) (puts_both puts emptied) in
    subst (λ any_held. Puts start (stage new_sent new_faults new_calls any_held) (done ++ piece)) (sym piece_held)
    (puts_both cleared (puts_kept new_sent new_faults new_calls held piece))

-- what a block held was sent: it is empty, and knows whether that failed
pub puts_sent : {F : Type 0} (result : Result (Unit {0}) F) (before after : Outlet) (held left : Held)
    → Writes result before after held.unsent → held.failed ≡ false → left.unsent ≡ [] → left.failed ≡ is_err result
    → Puts (record { sink = before; block = held }) (record { sink = after; block = left }) []
puts_sent (Ok value) before after held left writes not_failed emptied failed_now = record {
  behind = λ first sofar taken.
      let written_all = taken.going not_failed in
      let stopped : left.failed ≡ true → WritesFront first after (sofar ++ []) × Rose first.faults after.faults = λ failed_test. cc in
      record {
        never_fell = omega (arith, taken.never_fell, writes.faults_never_fall);
        going = λ failed_test. record {
          sent = written_all.sent ++ held.unsent;
          appended = Appends-trans _ _ _ written_all.sent held.unsent written_all.appended writes.all;
          split = ap (λ any_text. (written_all.sent ++ held.unsent) ++ any_text) emptied ∙ append-nil (written_all.sent ++ held.unsent) ∙ written_all.split ∙ sym (append-nil sofar);
          few_calls = few_both first.calls before.calls after.calls written_all.sent held.unsent written_all.few_calls writes.few_calls;
        };
        stopped = stopped;
        few_calls = few_sent first.calls before.calls after.calls held.unsent left.unsent sofar emptied taken.few_calls writes.few_calls;
      };
}
puts_sent (Err value) before after held left writes not_failed emptied failed_now = record {
  behind = λ first sofar taken.
      let written_all = taken.going not_failed in
      let sent_part = writes.front in
      let going : left.failed ≡ false → WritesUpTo first after (sofar ++ []) left.unsent = λ failed_test. cc in
      let front : WritesFront first after (sofar ++ []) = record {
        sent = written_all.sent ++ sent_part.sent;
        rest = sent_part.rest;
        appended = Appends-trans _ _ _ written_all.sent sent_part.sent written_all.appended sent_part.appended;
        split = append_assoc written_all.sent sent_part.sent sent_part.rest ∙ ap (λ any_text. written_all.sent ++ any_text) sent_part.split ∙ written_all.split ∙ sym (append-nil sofar);
        few_calls = few_and_one first.calls before.calls after.calls written_all.sent sent_part.sent written_all.few_calls sent_part.few_calls;
      } in
      record {
        never_fell = omega (arith, taken.never_fell, writes.faults_never_fall);
        going = going;
        stopped = λ failed_test. (front, rose_later first.faults before.faults after.faults taken.never_fell writes.only_by_fault);
        few_calls = few_sent first.calls before.calls after.calls held.unsent left.unsent sofar emptied taken.few_calls writes.few_calls;
      };
}

-- after a fault, what a block holds is dropped
pub puts_dropped : (sink : Outlet) (held left : Held) → held.failed ≡ true → left.unsent ≡ [] → left.failed ≡ true
    → Puts (record { sink = sink; block = held }) (record { sink = sink; block = left }) []
puts_dropped sink held left failed emptied failed_now = record {
  behind = λ first sofar taken.
      let going : left.failed ≡ false → WritesUpTo first sink (sofar ++ []) left.unsent = λ failed_test. cc in
      let stopped : WritesFront first sink (sofar ++ []) × Rose first.faults sink.faults =
      subst (λ text. WritesFront first sink text × Rose first.faults sink.faults) (sym (append-nil sofar)) (taken.stopped failed) in
      record {
        never_fell = taken.never_fell;
        going = going;
        stopped = λ failed_test. stopped;
        few_calls = few_sent first.calls sink.calls sink.calls held.unsent left.unsent sofar emptied taken.few_calls (omega arith);
      };
}
