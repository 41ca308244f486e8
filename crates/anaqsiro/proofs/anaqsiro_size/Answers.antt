-- `anaqsiro::anaqsiro_size` meets its contract: 3 where the kind is none, else what the header says.
use mathlib.Core.Path.{◌≡◌, ap, ◌∙◌}
use mathlib.Core.Logic.{inl, inr}
use Rattle.index.specs.Numbers.{number}
use Rattle.index.specs.Block.{size}
use Rattle.index.specs.Message.{KindFrom}
use Rattle.anaqsiro.specs.Returned.{SizeReturns}
use Rattle.anaqsiro.proofs.anaqsiro_size.Goals as goal

pub returns-in-Ok : goal.returns-in-Ok
unfolding SizeReturns KindFrom
returns-in-Ok c =
    let k = c.in-Ok.ensures in
    let e = c.size_of.ensures ∙ ap (size c.args.block.now) k.1 in
    (_, _, c.packed.ensures, inr (k.0, ap (λ n. (0, n)) e))

pub returns-in-Err : goal.returns-in-Err
unfolding SizeReturns KindFrom
returns-in-Err c =
    let k = c.in-Err.ensures in
    let n : number c.in-Err.refusal ≡ 3 = ap number k.1 in
    (_, _, c.packed-in-Err.ensures, inl (k.0, ap (λ n. (n, 0)) (c.number.ensures ∙ n)))
