-- A read into the middle of a buffer: its front grows by what was read.
use Rattle.std.proofs.Common.{◌≡◌, ℕ, ◌+◌, ◌≤◌, List, ◌++◌, length, take, drop, ap, ◌∙◌, take_at, drop_at, length-take-le}
use lib.Seq.{take-add, take-append-le}
use borrow.Rule.Slice.PartMut.{put_mid, post_of}

pub take_filled : (at k n : ℕ) (xs ys : List ℕ) → at ≤ length xs → n ≤ length ys → take (at + n) (put_mid at k xs ys) ≡ take at xs ++ take n ys
take_filled at k n xs ys within fits =
    let rest = ys ++ post_of at k xs in
    let e = length-take-le at xs within in
    take-add at n (take at xs ++ rest)
    ∙ ap (λ l. l ++ take n (drop at (take at xs ++ rest))) (take_at (take at xs) rest at e)
    ∙ ap (λ l. take at xs ++ l) (ap (take n) (drop_at (take at xs) rest at e) ∙ take-append-le n ys (post_of at k xs) fits)
