use Rattle.std.proofs.Common.{◌≡◌, ℕ, ◌+◌, ◌-◌, ◌≤◌, List, ◌++◌, length, take, drop, replicate, sym, ap, ◌∙◌, arith}
use Rattle.std.proofs.Math.Seq.{take-append-add}
use Rattle.std.proofs.lemmas.List.{length-take-le, take-replicate, drop-replicate}
use Rattle.grammar.specs.Forms.{padded, written_weights}
use Rattle.grammar.proofs.line.Weights.eight.Goals as goal

-- behind those written stand what is left of eight ones
ones_behind : (ws : List ℕ) → length ws ≤ 8 → ws ++ drop (length ws) (replicate 8 1) ≡ padded ws
ones_behind ws h =
    let e : length ws + (8 - length ws) ≡ 8 = omega arith in
    ap (λ l. ws ++ l) (drop-replicate (length ws) 8 1 ∙ sym (take-replicate (8 - length ws) 8 1 (omega arith)))
    ∙ sym (take-append-add ws (replicate 8 1) (8 - length ws))
    ∙ ap (λ n. take n (ws ++ replicate 8 1)) e

pub returns : goal.returns
returns c =
    let w = c.args.self.now in
    let n : length (written_weights w) ≡ w.count = length-take-le w.count w.values (omega arith) in
    ap (λ l. l ++ drop w.count (replicate 8 1)) c.copy_from_slice.ensures.after
    ∙ ap (λ k. written_weights w ++ drop k (replicate 8 1)) (sym n)
    ∙ ones_behind (written_weights w) (omega arith)
