-- The functions of the cycle meet their contracts: a list is its first row, and then a comma and a row for each that is next; a slot is by what it takes
-- nothing, an array, null or an object; a row is the head, the slots and the brace behind them.
use Rattle.std.proofs.Common.{◌≡◌, ◌+◌, sym, ap, ◌∙◌, arith}
use Rattle.grammar.specs.Script.{word_of}
use Rattle.slots.specs.Slots.{slot}
use Rattle.slots.specs.Fine.{is_list}
use Rattle.slots.specs.Codes.{code, slot_of}
use Rattle.slots.proofs.Numbers.{of_code}
use Rattle.payloads.specs.Fields.{fields_of}
use Rattle.trees.proofs.Words.{read_in}
use Rattle.json_text.specs.Json.{array, object_or_null, texts}
use Rattle.json_writer.proofs.DeepTurns.{fewer}
use Rattle.json_writer.proofs.Parts.{first_ready, rest_ready, some_left, row_placed, ready_0, ready_1, ready_2, ready_3}
use Rattle.json_values.proofs.Puts.{puts_append, puts_stop, handed_on}
use Rattle.json_writer.proofs.Members.{none_put, list_put, list_stop, begun, gone, comma_stop, row_stop, ended}
use Rattle.json_writer.proofs.Wholes.{no_slot, a_slot, nothing_by, array_by, object_by, child_by, key_stop, bracket_stop, listed_stop, brackets_by, null_by, row_by, row_parts}
use Rattle.json_writer.proofs.row.+rows.Goals as goal

pub put_members-returns-then-c-eq0 : goal.put_members-returns-then-c-eq0
put_members-returns-then-c-eq0 t c ts h = none_put c.args.fields.file.now c.if-c-eq0.true ts h

pub put_members-put_row-requires : goal.put_members-put_row-requires
put_members-put_row-requires t c = (omega arith, (c.requires.indexes, first_ready c.requires.all_ready c.if-c-eq0.false))

pub put_members-returns-in_err-put_row : goal.put_members-returns-in_err-put_row
put_members-returns-in_err-put_row t c ts h = handed_on (list_stop c.args.fields.file.now c.if-c-eq0.false c.in_err-put_row.ensures ts h) c.from_residual.ensures

pub put_members-loop-r-init : goal.put_members-loop-r-init
put_members-loop-r-init t c =
    let inside = (c.requires.all_ready.begins c.if-c-eq0.false).0 in
    let next : c.word-r.result ≡ word_of c.args.pool.now c.args.c 7 = c.word-r.ensures ∙ read_in c.args.pool.now c.args.c 7 inside (omega arith) in
    begun (rw next (rest_ready c.requires.all_ready c.if-c-eq0.false))

pub put_members-returns-in_err-put_byte : goal.put_members-returns-in_err-put_byte
put_members-returns-in_err-put_byte t c ts h =
    let inside = (c.requires.all_ready.begins c.if-c-eq0.false).0 in
    let next : c.word-r.result ≡ word_of c.args.pool.now c.args.c 7 = c.word-r.ensures ∙ read_in c.args.pool.now c.args.c 7 inside (omega arith) in
    handed_on (list_put c.args.fields.file.now c.if-c-eq0.false next c.in_ok-put_row.ensures (comma_stop c.loop-r.invariant c.loop-r-test.true c.in_err-put_byte.ensures) ts h)
    c.from_residual-in_err-put_byte.ensures

pub put_members-put_row-requires-in-loop-r : goal.put_members-put_row-requires-in-loop-r
put_members-put_row-requires-in-loop-r t c = (omega arith, (c.requires.indexes, first_ready c.loop-r.invariant.rest c.loop-r-test.true))

pub put_members-returns-in_err-put_row-2 : goal.put_members-returns-in_err-put_row-2
put_members-returns-in_err-put_row-2 t c ts h =
    let inside = (c.requires.all_ready.begins c.if-c-eq0.false).0 in
    let next : c.word-r.result ≡ word_of c.args.pool.now c.args.c 7 = c.word-r.ensures ∙ read_in c.args.pool.now c.args.c 7 inside (omega arith) in
    handed_on
    (list_put c.args.fields.file.now c.if-c-eq0.false next c.in_ok-put_row.ensures (row_stop c.loop-r.invariant c.loop-r-test.true c.in_ok-put_byte.ensures c.in_err-put_row-2.ensures) ts h)
    c.from_residual-in_err-put_row-2.ensures

pub put_members-loop-r-smaller : goal.put_members-loop-r-smaller
put_members-loop-r-smaller t c = fewer c.args.pool.now c.loop-r.invariant.rest.begins c.loop-r-test.true c.word-r-in-loop-r.ensures

pub put_members-loop-r-preserved : goal.put_members-loop-r-preserved
put_members-loop-r-preserved t c =
    let going = c.loop-r.invariant in
    let more = c.loop-r-test.true in
    gone going more (c.word-r-in-loop-r.ensures ∙ read_in c.args.pool.now c.loop-r.r 7 (going.rest.begins more).0 (omega arith)) c.in_ok-put_byte.ensures c.in_ok-put_row-2.ensures

pub put_members-returns : goal.put_members-returns
put_members-returns t c =
    let inside = (c.requires.all_ready.begins c.if-c-eq0.false).0 in
    let next : c.word-r.result ≡ word_of c.args.pool.now c.args.c 7 = c.word-r.ensures ∙ read_in c.args.pool.now c.args.c 7 inside (omega arith) in
    list_put c.args.fields.file.now c.if-c-eq0.false next c.in_ok-put_row.ensures (ended c.loop-r.invariant c.loop-r-test.false)

pub put_slot-returns-then-s-lt-SOME : goal.put_slot-returns-then-s-lt-SOME
put_slot-returns-then-s-lt-SOME t c ts h =
    let s = slot (word_of c.args.pool.now c.args.r 0) c.args.i in
    let coded : c.slot-s.result ≡ code s = c.slot-s.ensures ∙ ap (λ k. code (slot k c.args.i)) (c.word.ensures ∙ read_in c.args.pool.now c.args.r 0 c.requires.fact (omega arith)) in
    nothing_by c.args.i s.many (fields_of c.args.fields.file.now) (no_slot s (omega arith)) ts

pub put_slot-returns-in_err-put_key : goal.put_slot-returns-in_err-put_key
put_slot-returns-in_err-put_key t c ts h =
    let s = slot (word_of c.args.pool.now c.args.r 0) c.args.i in
    let coded : c.slot-s.result ≡ code s = c.slot-s.ensures ∙ ap (λ k. code (slot k c.args.i)) (c.word.ensures ∙ read_in c.args.pool.now c.args.r 0 c.requires.fact (omega arith)) in
    handed_on (key_stop c.args.i s.many (fields_of c.args.fields.file.now) (a_slot s (omega arith)) ts c.in_err-put_key.ensures) c.from_residual.ensures

pub put_slot-put_members-requires : goal.put_slot-put_members-requires
put_slot-put_members-requires t c =
    let child : c.word-c.result ≡ word_of c.args.pool.now c.args.r (3 + c.args.i) = c.word-c.ensures ∙ read_in c.args.pool.now c.args.r (3 + c.args.i) c.requires.fact (omega arith) in
    (omega arith, (c.requires.indexes, rw child c.requires.all_ready))

pub put_slot-put_row-requires : goal.put_slot-put_row-requires
put_slot-put_row-requires t c =
    let child : c.word-c.result ≡ word_of c.args.pool.now c.args.r (3 + c.args.i) = c.word-c.ensures ∙ read_in c.args.pool.now c.args.r (3 + c.args.i) c.requires.fact (omega arith) in
    (omega arith, (c.requires.indexes, first_ready (rw child c.requires.all_ready) c.if-c-eq0.false))

pub put_slot-returns-in_err-put_byte : goal.put_slot-returns-in_err-put_byte
put_slot-returns-in_err-put_byte t c ts h =
    let s = slot (word_of c.args.pool.now c.args.r 0) c.args.i in
    let fs = fields_of c.args.fields.file.now in
    let coded : c.slot-s.result ≡ code s = c.slot-s.ensures ∙ ap (λ k. code (slot k c.args.i)) (c.word.ensures ∙ read_in c.args.pool.now c.args.r 0 c.requires.fact (omega arith)) in
    let listing : c.is_list.result ≡ is_list s.many = c.is_list.ensures ∙ ap (λ s. is_list s.many) (ap slot_of coded ∙ of_code s) in
    handed_on
    (array_by c.args.i s.many fs (sym listing ∙ c.if-is_list.true) ts (child_by c.args.i (array (texts fs ts)) c.in_ok-put_key.ensures (bracket_stop (texts fs ts) c.in_err-put_byte.ensures)))
    c.from_residual-in_err-put_byte.ensures

pub put_slot-returns-in_err-put_members : goal.put_slot-returns-in_err-put_members
put_slot-returns-in_err-put_members t c ts h =
    let s = slot (word_of c.args.pool.now c.args.r 0) c.args.i in
    let fs = fields_of c.args.fields.file.now in
    let coded : c.slot-s.result ≡ code s = c.slot-s.ensures ∙ ap (λ k. code (slot k c.args.i)) (c.word.ensures ∙ read_in c.args.pool.now c.args.r 0 c.requires.fact (omega arith)) in
    let child : c.word-c.result ≡ word_of c.args.pool.now c.args.r (3 + c.args.i) = c.word-c.ensures ∙ read_in c.args.pool.now c.args.r (3 + c.args.i) c.requires.fact (omega arith) in
    let listing : c.is_list.result ≡ is_list s.many = c.is_list.ensures ∙ ap (λ s. is_list s.many) (ap slot_of coded ∙ of_code s) in
    handed_on
    (array_by c.args.i s.many fs (sym listing ∙ c.if-is_list.true) ts
    (child_by c.args.i (array (texts fs ts)) c.in_ok-put_key.ensures (listed_stop (texts fs ts) c.in_ok-put_byte.ensures (c.in_err-put_members.ensures ts (rw child h)))))
    c.from_residual-in_err-put_members.ensures

pub put_slot-returns-then-is_list : goal.put_slot-returns-then-is_list
put_slot-returns-then-is_list t c ts h =
    let s = slot (word_of c.args.pool.now c.args.r 0) c.args.i in
    let fs = fields_of c.args.fields.file.now in
    let coded : c.slot-s.result ≡ code s = c.slot-s.ensures ∙ ap (λ k. code (slot k c.args.i)) (c.word.ensures ∙ read_in c.args.pool.now c.args.r 0 c.requires.fact (omega arith)) in
    let child : c.word-c.result ≡ word_of c.args.pool.now c.args.r (3 + c.args.i) = c.word-c.ensures ∙ read_in c.args.pool.now c.args.r (3 + c.args.i) c.requires.fact (omega arith) in
    let listing : c.is_list.result ≡ is_list s.many = c.is_list.ensures ∙ ap (λ s. is_list s.many) (ap slot_of coded ∙ of_code s) in
    array_by c.args.i s.many fs (sym listing ∙ c.if-is_list.true) ts
    (child_by c.args.i (array (texts fs ts)) c.in_ok-put_key.ensures
    (brackets_by (texts fs ts) c.in_ok-put_byte.ensures (c.in_ok-put_members.ensures ts (rw child h)) c.put_byte-then-is_list.ensures))

pub put_slot-returns-then-c-eq0 : goal.put_slot-returns-then-c-eq0
put_slot-returns-then-c-eq0 t c ts h =
    let s = slot (word_of c.args.pool.now c.args.r 0) c.args.i in
    let fs = fields_of c.args.fields.file.now in
    let coded : c.slot-s.result ≡ code s = c.slot-s.ensures ∙ ap (λ k. code (slot k c.args.i)) (c.word.ensures ∙ read_in c.args.pool.now c.args.r 0 c.requires.fact (omega arith)) in
    let child : c.word-c.result ≡ word_of c.args.pool.now c.args.r (3 + c.args.i) = c.word-c.ensures ∙ read_in c.args.pool.now c.args.r (3 + c.args.i) c.requires.fact (omega arith) in
    let listing : c.is_list.result ≡ is_list s.many = c.is_list.ensures ∙ ap (λ s. is_list s.many) (ap slot_of coded ∙ of_code s) in
    object_by c.args.i s.many fs (sym listing ∙ c.if-is_list.false) (a_slot s (omega arith)) ts
    (child_by c.args.i (object_or_null (texts fs ts)) c.in_ok-put_key.ensures (null_by fs (sym child ∙ c.if-c-eq0.true) ts h c.put_bytes.ensures))

pub put_slot-returns : goal.put_slot-returns
put_slot-returns t c ts h =
    let s = slot (word_of c.args.pool.now c.args.r 0) c.args.i in
    let fs = fields_of c.args.fields.file.now in
    let coded : c.slot-s.result ≡ code s = c.slot-s.ensures ∙ ap (λ k. code (slot k c.args.i)) (c.word.ensures ∙ read_in c.args.pool.now c.args.r 0 c.requires.fact (omega arith)) in
    let child : c.word-c.result ≡ word_of c.args.pool.now c.args.r (3 + c.args.i) = c.word-c.ensures ∙ read_in c.args.pool.now c.args.r (3 + c.args.i) c.requires.fact (omega arith) in
    let listing : c.is_list.result ≡ is_list s.many = c.is_list.ensures ∙ ap (λ s. is_list s.many) (ap slot_of coded ∙ of_code s) in
    object_by c.args.i s.many fs (sym listing ∙ c.if-is_list.false) (a_slot s (omega arith)) ts
    (child_by c.args.i (object_or_null (texts fs ts)) c.in_ok-put_key.ensures (row_by fs (λ e. c.if-c-eq0.false (child ∙ e)) ts h (rw (← child) c.put_row.ensures)))

pub put_row-overflow_sub-below : goal.put_row-overflow_sub-below
put_row-overflow_sub-below t c = some_left c.requires.ready

pub put_row-put_head-requires : goal.put_row-put_head-requires
put_row-put_head-requires t c = record { fact = c.requires.ready.inside; indexes = c.requires.indexes; r_value = row_placed c.requires.ready }

pub put_row-put_slot-requires : goal.put_row-put_slot-requires
put_row-put_slot-requires t c = (omega (arith, some_left c.requires.ready), (c.requires.ready.inside, (omega arith, (c.requires.indexes, ready_0 c.requires.ready))))

pub put_row-put_slot-requires-2 : goal.put_row-put_slot-requires-2
put_row-put_slot-requires-2 t c = (omega (arith, some_left c.requires.ready), (c.requires.ready.inside, (omega arith, (c.requires.indexes, ready_1 c.requires.ready))))

pub put_row-put_slot-requires-3 : goal.put_row-put_slot-requires-3
put_row-put_slot-requires-3 t c = (omega (arith, some_left c.requires.ready), (c.requires.ready.inside, (omega arith, (c.requires.indexes, ready_2 c.requires.ready))))

pub put_row-put_slot-requires-4 : goal.put_row-put_slot-requires-4
put_row-put_slot-requires-4 t c = (omega (arith, some_left c.requires.ready), (c.requires.ready.inside, (omega arith, (c.requires.indexes, ready_3 c.requires.ready))))

pub put_row-returns-in_err-put_head : goal.put_row-returns-in_err-put_head
put_row-returns-in_err-put_head t c u h =
    let p = row_parts c.args.pool.now (fields_of c.args.fields.file.now) c.args.r u h in
    rw p.is (handed_on (puts_stop _ c.in_err-put_head.ensures) c.from_residual.ensures)

pub put_row-returns-in_err-put_slot : goal.put_row-returns-in_err-put_slot
put_row-returns-in_err-put_slot t c u h =
    let p = row_parts c.args.pool.now (fields_of c.args.fields.file.now) c.args.r u h in
    rw p.is (handed_on (puts_append c.in_ok-put_head.ensures (puts_stop _ (c.in_err-put_slot.ensures p.a p.in_0))) c.from_residual-in_err-put_slot.ensures)

pub put_row-returns-in_err-put_slot-2 : goal.put_row-returns-in_err-put_slot-2
put_row-returns-in_err-put_slot-2 t c u h =
    let p = row_parts c.args.pool.now (fields_of c.args.fields.file.now) c.args.r u h in
    rw p.is (handed_on (puts_append c.in_ok-put_head.ensures (puts_append (c.in_ok-put_slot.ensures p.a p.in_0) (puts_stop _ (c.in_err-put_slot-2.ensures p.b p.in_1)))) c.from_residual-in_err-put_slot-2.ensures)

pub put_row-returns-in_err-put_slot-3 : goal.put_row-returns-in_err-put_slot-3
put_row-returns-in_err-put_slot-3 t c u h =
    let p = row_parts c.args.pool.now (fields_of c.args.fields.file.now) c.args.r u h in
    rw p.is (handed_on (puts_append c.in_ok-put_head.ensures (puts_append (c.in_ok-put_slot.ensures p.a p.in_0) (puts_append (c.in_ok-put_slot-2.ensures p.b p.in_1) (puts_stop _ (c.in_err-put_slot-3.ensures p.c p.in_2))))) c.from_residual-in_err-put_slot-3.ensures)

pub put_row-returns-in_err-put_slot-4 : goal.put_row-returns-in_err-put_slot-4
put_row-returns-in_err-put_slot-4 t c u h =
    let p = row_parts c.args.pool.now (fields_of c.args.fields.file.now) c.args.r u h in
    rw p.is (handed_on (puts_append c.in_ok-put_head.ensures (puts_append (c.in_ok-put_slot.ensures p.a p.in_0) (puts_append (c.in_ok-put_slot-2.ensures p.b p.in_1) (puts_append (c.in_ok-put_slot-3.ensures p.c p.in_2) (puts_stop _ (c.in_err-put_slot-4.ensures p.d p.in_3)))))) c.from_residual-in_err-put_slot-4.ensures)

pub put_row-returns : goal.put_row-returns
put_row-returns t c u h =
    let p = row_parts c.args.pool.now (fields_of c.args.fields.file.now) c.args.r u h in
    rw p.is (puts_append c.in_ok-put_head.ensures (puts_append (c.in_ok-put_slot.ensures p.a p.in_0) (puts_append (c.in_ok-put_slot-2.ensures p.b p.in_1) (puts_append (c.in_ok-put_slot-3.ensures p.c p.in_2) (puts_append (c.in_ok-put_slot-4.ensures p.d p.in_3) (c.put_byte.ensures))))))
