-- `bodies::put_union_rows` meets its contract: the inline base, the branches, then the union's own row.
use mathlib.Core.Path.{refl, ◌∙◌}
use native.Mathlib.Omega.{arith}
use Rattle.definitions.proofs.Stores.{passed_on, bounds}
use Rattle.definitions.proofs.UnionLaws.{union-bad-base, union-bad-branches, union-put}
use Rattle.definitions.proofs.bodies.put_union_rows.Goals as goal

pub returns-in_err-first : goal.returns-in_err-first
returns-in_err-first c =
    passed_on c.from_residual.ensures.0 c.put_inline.ensures.same_length (union-bad-base c.put_inline.ensures c.in_err-first.was)

pub returns-in_err-m : goal.returns-in_err-m
returns-in_err-m c =
    passed_on c.from_residual-in_err-m.ensures.0 (c.put_children.ensures.same_length ∙ c.put_inline.ensures.same_length)
    (union-bad-branches c.put_inline.ensures c.in_ok-first.was c.put_children.ensures c.in_err-m.was)

pub returns : goal.returns
returns c =
    let a = bounds c.put_inline.ensures c.in_ok-first.was in
    let b = bounds c.put_children.ensures c.in_ok-m.was in
    record {
      same_length = c.put_row.ensures.same_length ∙ c.put_children.ensures.same_length ∙ c.put_inline.ensures.same_length;
      few = (omega (arith, a.0, b.0), omega (arith, a.1, b.1));
      told =
          union-put c.put_inline.ensures c.in_ok-first.was c.put_children.ensures refl c.in_ok-m.was c.named_row-own.ensures c.data_link.ensures refl c.name_word.ensures
          c.put_row.ensures;
    }
