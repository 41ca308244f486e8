-- `standing::run` meets its contract: the block that make leaves is fed, and then its sets are shown.
use Rattle.std.proofs.Common.{refl, List, ℕ, Result, Ok, Err, OnErr}
use Rattle.index.specs.Calls.{Makes}
use Rattle.index.proofs.laws.Refusing.{is_accepted}
use Rattle.standing.specs.Promised.{LedTo, Halted}
use Rattle.std.proofs.KnownBytes.{Appends-trans}
use Rattle.std.proofs.lemmas.Result.{on_ok_weaker}
use Rattle.standing.proofs.StaysUsable.{is_made, made_usable, fed_usable}
use Rattle.standing.proofs.run.Goals as goal

-- What holds whatever came of the call holds where there is an error.
if_err : {T E P : Type 0} (r : Result T E) → P → OnErr r P
if_err (Ok x) p = tt
if_err (Err e) p = p

halted : {b b₁ b' : List ℕ} → Makes b (0, b₁) → LedTo b₁ 1 b' → Halted b b'
halted {b₁ = b₁} m l = record { block = b₁; made = m; led = l }

pub unwrap-requires : goal.unwrap-requires
unwrap-requires g c = is_accepted c.make.result (is_made _ _ _ c.requires.0 c.make.ensures).0

pub feed-requires : goal.feed-requires
feed-requires g c = made_usable _ _ _ c.requires.0 c.make.ensures

pub show-requires : goal.show-requires
show-requires g c =
    (fed_usable (made_usable _ _ _ c.requires.0 c.make.ensures) c.in_ok-feed.ensures.fed.fed, c.requires.1, c.requires.2)

pub returns-clause-ran : goal.returns-clause-ran
returns-clause-ran g c =
    let f = c.in_ok-feed.ensures.fed in
    on_ok_weaker c.show.result
    (λ written.
    record {
      input = f.input;
      refusals = f.lines;
      prints =
          record {
            before = c.args.block.now;
            block = c.make.new.block;
            long = c.requires.0;
            made = rw (is_made _ _ _ c.requires.0 c.make.ensures).0 at c.make.ensures;
            refusals = f.lines;
            left = c.feed.new.block;
            fed = f.fed;
            printed = refl;
          };
      long = c.show.ensures.handed.0;
      handed = c.show.ensures.handed.1;
      passed = record { taken = f.passed.taken; given = Appends-trans _ _ _ _ _ f.passed.given written };
      whole = f.whole;
    })
    c.show.ensures.written

pub returns-clause-stopped : goal.returns-clause-stopped
returns-clause-stopped g c =
    let f = c.in_ok-feed.ensures.fed in
    if_err c.show.result (halted (rw (is_made _ _ _ c.requires.0 c.make.ensures).0 at c.make.ensures) (record { input = f.input; lines = f.lines; fed = f.fed }))

pub returns-in_err-feed-clause-stopped : goal.returns-in_err-feed-clause-stopped
returns-in_err-feed-clause-stopped g c =
    if_err c.from_residual.result (halted (rw (is_made _ _ _ c.requires.0 c.make.ensures).0 at c.make.ensures) c.in_err-feed.ensures.stopped)
