use Rattle.std.proofs.Common.{eqb, w8, arith, refl}
use Rattle.std.specs.Simd.Lanes.{chunk}
use Rattle.std.proofs.lemmas.Simd.{bitmask_splat, length-chunk}
use Rattle.cse_case.proofs.LineLaws.{feed_near}
use Rattle.cse_case.proofs.cut.find_feed.Goals as goal

pub returns-then-at-lt32 : goal.returns-then-at-lt32
returns-then-at-lt32 c =
    let bytes = c.args.bytes.now in
    let len = length-chunk 0 32 bytes (omega arith) in
    feed_near bytes _ _ (omega arith) (bitmask_splat w8 eqb (chunk 0 32 bytes) 32 10 len (omega arith)) refl (omega arith)
