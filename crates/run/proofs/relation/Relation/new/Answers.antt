use Rattle.std.proofs.Common.{◌++◌, length, drop, replicate, refl, ap, ◌∙◌}
use Rattle.std.proofs.Math.Nat.{sub-zero}
use Rattle.std.proofs.lemmas.List.{take_at}
use Rattle.run.specs.Relations.{tail_of}
use Rattle.run.proofs.Making.{is_made}
use Rattle.run.proofs.relation.Relation.new.Goals as goal

pub returns : goal.returns
unfolding tail_of
returns c =
    let ts = c.args.tail.now in
    let same = c.copy_from_slice.ensures.after in
    let few = c.if-count-gt-TAIL_TERMS.false in
    record {
      says = (refl, take_at c.copy_from_slice.new.self _ (length ts) (ap length same) ∙ same);
      whole = is_made c.args.factor ts _ _ (λ m. c.copy_from_slice.ensures.after m ++ drop (sub-zero (length ts) m) (replicate 8 (c.blank-terms.ensures m)));
    }
