-- `hex::read_bytes` meets its contract. Assumes nothing.
use mathlib.Core.Path.{◌∙◌, sym}
use borrow.Author.Tests.{lt-ltb, le-ltb}
use Rattle.text.proofs.hex.read_bytes.Goals as goal

pub returns-then-same : goal.returns-then-same
returns-then-same c = let e = sym c.same.ensures ∙ c.if-same.true in record { value = simp e; to_after = simp e }

pub returns-then-s-to : goal.returns-then-s-to
returns-then-s-to c =
    let e = sym c.same.ensures ∙ c.if-same.false in
    record { value = simp (e, lt-ltb _ _ c.if-s-to.true); to_after = simp (e, lt-ltb _ _ c.if-s-to.true) }

pub returns : goal.returns
returns c =
    let e = sym c.same.ensures ∙ c.if-same.false in
    let p = c.read_pairs.ensures in record {
      value = p.value ∙ simp (e, le-ltb _ _ c.if-s-to.false);
      to_after = p.to_after
          ∙ simp (e, le-ltb _ _ c.if-s-to.false);
    }
