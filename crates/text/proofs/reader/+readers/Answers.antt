-- The readers of values, containers, entries and members meet their contracts. They call each other with fewer levels, or with the same and a smaller rank.
-- In the loop the entries so far are the invariant, and what is left of the text is the measure. Each return is a law of its own.
use native.Mathlib.Omega.{arith}
use mathlib.Core.Path.{ap, ◌∙◌}
use borrow.Author.Rules.{rules}
use Rattle.std.specs.Prelude.{Ok}
use Rattle.tokens.proofs.StringTokens.{dialect_complete as laws}
use Rattle.text.proofs.Inside.{handed_on, entry-told, comma_on, close-on, reached-ready, reached-fits}
use Rattle.text.proofs.Values.{stood, missed, opens, container-at, unbracketed, scalar-at, ready-after, value_after, value-entry}
use Rattle.text.proofs.Pairs.{key-ready, pair_fits, pair_read, pair-stop, key-stop}
use Rattle.text.proofs.Entries.{container-too_deep, entries_none, entries_begin, entries-past, entries-stop, entries_comma, entries-close, entries_neither}
use Rattle.text.proofs.reader.+readers.Goals as goal

pub read_at-read_container-requires : goal.read_at-read_container-requires
read_at-read_container-requires t c = (search rules, opens c.opening_at.ensures c.in-Some.is c.requires.0)

pub read_at-returns-in-Some : goal.read_at-returns-in-Some
read_at-returns-in-Some t c = container-at c.opening_at.ensures c.in-Some.is c.read_container.ensures

pub read_at-scalar_node-requires : goal.read_at-scalar_node-requires
read_at-scalar_node-requires t c = (c.requires.0, unbracketed c.opening_at.ensures c.in-None.is c.requires.1)

pub read_at-returns-in-None : goal.read_at-returns-in-None
read_at-returns-in-None t c = scalar-at c.opening_at.ensures c.in-None.is c.scalar_node.ensures

pub read_container-returns-then-left-eq0 : goal.read_container-returns-then-left-eq0
read_container-returns-then-left-eq0 t c = container-too_deep (laws c.args.source.dialect) c.requires c.if-left-eq0.true

pub read_container-overflow_add-end : goal.read_container-overflow_add-end
read_container-overflow_add-end t c = omega (arith, stood c.stands.ensures c.if-stands.true)

pub read_container-put_node-requires : goal.read_container-put_node-requires
read_container-put_node-requires t c = omega (arith, stood c.stands.ensures c.if-stands.true)

pub read_container-returns-then-stands : goal.read_container-returns-then-stands
read_container-returns-then-stands t c =
    entries_none (laws c.args.source.dialect) c.requires c.if-left-eq0.false c.skip_blanks-first.ensures c.closing-close.ensures
    (stood c.stands.ensures c.if-stands.true) c.node.ensures c.put_node.ensures

pub read_container-loop-entry-init : goal.read_container-loop-entry-init
read_container-loop-entry-init t c =
    entries_begin (laws c.args.source.dialect) c.requires c.if-left-eq0.false c.skip_blanks-first.ensures c.closing-close.ensures
    (missed c.stands.ensures c.if-stands.false)

pub read_container-read_entry-requires : goal.read_container-read_entry-requires
read_container-read_entry-requires t c = (search rules, reached-ready c.requires c.loop-entry.invariant.reached)

pub read_container-returns-in_err-entry : goal.read_container-returns-in_err-entry
read_container-returns-in_err-entry t c =
    rw (handed_on c.from_residual.result c.from_residual.ensures.1) (entries-stop c.loop-entry.invariant c.read_entry.ensures c.in_err-entry.was)

pub read_container-returns-in_err-past : goal.read_container-returns-in_err-past
read_container-returns-in_err-past t c =
    let past = entries-past c.loop-entry.invariant c.read_entry.ensures c.in_ok-entry.was in
    rw (handed_on c.from_residual-in_err-past.result c.from_residual-in_err-past.ensures.1) (entries_neither past c.read_following.ensures c.in_err-past.was)

pub read_container-loop-entry-smaller : goal.read_container-loop-entry-smaller
read_container-loop-entry-smaller t c =
    let v = (entry-told c.read_entry.ensures c.in_ok-entry.was).moved.on in
    let on = comma_on c.read_following.ensures (c.in_ok-past.was ∙ ap Ok c.in-Comma.is) in
    omega arith

pub read_container-loop-entry-preserved : goal.read_container-loop-entry-preserved
read_container-loop-entry-preserved t c =
    let past = entries-past c.loop-entry.invariant c.read_entry.ensures c.in_ok-entry.was in
    entries_comma past c.read_following.ensures (c.in_ok-past.was ∙ ap Ok c.in-Comma.is)

pub read_container-put_node-requires-in-Close : goal.read_container-put_node-requires-in-Close
read_container-put_node-requires-in-Close t c =
    let past = entries-past c.loop-entry.invariant c.read_entry.ensures c.in_ok-entry.was in
    reached-fits c.requires past.reached (close-on c.read_following.ensures (c.in_ok-past.was ∙ ap Ok c.in-Close.is)).1

pub read_container-returns-in-Close : goal.read_container-returns-in-Close
read_container-returns-in-Close t c =
    let past = entries-past c.loop-entry.invariant c.read_entry.ensures c.in_ok-entry.was in
    entries-close past c.read_following.ensures (c.in_ok-past.was ∙ ap Ok c.in-Close.is) c.node-in-Close.ensures c.put_node-in-Close.ensures

pub read_entry-returns-in-Array : goal.read_entry-returns-in-Array
read_entry-returns-in-Array t c = rw c.in-Array.is (value-entry c.read_value.ensures)

pub read_entry-returns-in-Object : goal.read_entry-returns-in-Object
read_entry-returns-in-Object t c = rw c.in-Object.is c.read_member.ensures

pub read_member-read_value-requires : goal.read_member-read_value-requires
read_member-read_value-requires t c = (search rules, key-ready c.read_key.ensures c.in_ok-key.was c.requires)

pub read_member-put_node-requires : goal.read_member-put_node-requires
read_member-put_node-requires t c = pair_fits c.read_key.ensures c.in_ok-key.was c.requires c.read_value.ensures c.in_ok-value.was

pub read_member-returns-in_err-key : goal.read_member-returns-in_err-key
read_member-returns-in_err-key t c = rw (handed_on c.from_residual.result c.from_residual.ensures.1) (key-stop c.read_key.ensures c.in_err-key.was)

pub read_member-returns-in_err-value : goal.read_member-returns-in_err-value
read_member-returns-in_err-value t c =
    rw (handed_on c.from_residual-in_err-value.result c.from_residual-in_err-value.ensures.1) (pair-stop c.read_key.ensures c.in_ok-key.was c.read_value.ensures c.in_err-value.was)

pub read_member-returns : goal.read_member-returns
read_member-returns t c = pair_read c.read_key.ensures c.in_ok-key.was c.read_value.ensures c.in_ok-value.was c.put_node.ensures

pub read_value-read_at-requires : goal.read_value-read_at-requires
read_value-read_at-requires t c =
    let x = c.skip_blanks-p.ensures in
    (search rules, (ready-after x c.requires, x.solid))

pub read_value-returns : goal.read_value-returns
read_value-returns t c = value_after c.skip_blanks-p.ensures c.read_at.ensures
