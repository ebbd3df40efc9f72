-- `buffers::add_chunks` meets its contract: after k turns, N * k bytes more are added.
-- Assumes nothing.
use Rattle.std.proofs.Common.{◌≡◌, ℕ, ◌+◌, ◌-◌, ◌*◌, ◌/◌, ◌<◌, ◌≤◌, ap, ◌∙◌, arith}
use Rattle.std.proofs.Math.Nat.{le-div_iff_mul-le, mul_comm}
use Rattle.buffers.specs.Parts.{added}
use Rattle.buffers.proofs.Sums.{within_chunk}
use Rattle.buffers.proofs.add_chunks.Goals as goal

-- one chunk more
more : (n k : ℕ) → n * (k + 1) ≡ n * k + n
more n k =
    let e : (k + 1) * n ≡ k * n + n = omega arith in
    mul_comm n (k + 1) ∙ e ∙ ap (λ (m : ℕ). m + n) (mul_comm k n)

-- chunk k is one of the whole ones
inside : (n k rest : ℕ) → 0 < n → k < rest / n → n * k + n ≤ rest
inside n k rest p h =
    let s : k + 1 ≤ rest / n = omega arith in
    let q = (le-div_iff_mul-le p).0 s in
    omega (arith, q, mul_comm n (k + 1), more n k)

pub loop-k-preserved : goal.loop-k-preserved
loop-k-preserved g c =
    let k = c.loop-k.k in
    let i = c.args.done + g.row.N * k in
    let room = inside g.row.N k (c.args.len - c.args.done) c.requires.whole.0 c.loop-k-test.true in
    let e : i + g.row.N ≡ c.args.done + g.row.N * (k + 1) = omega (arith, more g.row.N k) in
    λ d h. within_chunk d _ _ _ i g.row.N _ _ c.requires.apart (omega (arith, room)) (c.loop-k.invariant d h) c.add_chunk.ensures ∙ ap (added _ _ _ _) e
