-- What the walks of both sides and the nearest granting record say of slips.
use Prim.Native.Nat.{ℕ, ◌+◌, ◌-◌, ◌^◌, ◌<◌, ◌≤◌}
use mathlib.Core.Path.{◌≡◌, refl, sym, ap, ◌∙◌}
use mathlib.Core.Bool.{Bool, true, false, cond}
use mathlib.Core.List.{List, [], ◌∷◌, ◌++◌}
use mathlib.Core.Logic.{◌⊎◌, inl, inr, ⊎_elim}
use native.Mathlib.Omega.{arith}
use native.Mathlib.Decide.{ℕ_discrete}
use lib.ListN.{length, get_or, take, drop, length-drop, take-append-drop}
use lib.Seq.{length-take-le, get_or-take, get_or-drop, ext_get_or}
use lib.Dec.{eqb}
use Rattle.index.specs.declared.Kind.TheVariants.{Membership, Permission}
use Rattle.index.specs.Letters.{right_count}
use Rattle.index.specs.Block.{IsName, Of, key, id, NetAt, Good}
use Rattle.index.proofs.laws.block.Records.{of_records}
use Rattle.rights.specs.Chain.{Chain}
use Rattle.rights.specs.Chain.Chain.{here, through}
use Rattle.rights.specs.Groups.{Open}
use Rattle.rights.specs.Held.{Carries, Passes, Holds, chain_limit}
use Rattle.rights.proofs.laws.ByNumber.{at_self, net_at, net_where}
use Rattle.std.specs.Prelude.{Some, None}
use Rattle.slips.specs.Slip.{most_names, last, Names, ZeroAlone, Slip, Shortest}
use Rattle.slips.specs.Calls.{Found}
use Rattle.slips.specs.work.Trails.{far, at, at_object, between, Short, Walk, Granted, Backs, Traced, ObjectTraced}
use Rattle.slips.proofs.laws.Naming.{names_chain, holds_slip}
use Rattle.slips.proofs.laws.Objects.{at_zero, at_other}

-- ---- a list with other numbers at its front

pub front : (n : ℕ) (names names' : List ℕ) → length names' ≡ length names → ((i : ℕ) → n ≤ i → get_or names' i 0 ≡ get_or names i 0)
    → names' ≡ take n names' ++ drop n names
front n names names' long past =
    sym (take-append-drop n names')
    ∙ ap (λ (l : List ℕ). take n names' ++ l)
    (ext_get_or 0 (drop n names') (drop n names) (length-drop n names' ∙ ap (λ (m : ℕ). m - n) long ∙ sym (length-drop n names))
    (λ i h. get_or-drop n names' i 0 ∙ past (n + i) (omega arith) ∙ sym (get_or-drop n names i 0)))

-- ---- one side

module _ {b : List ℕ} (good : Good b) {k start : ℕ} {steps before : List ℕ} (w : Walk b k start steps before) where
  on : {m x z : ℕ} → Chain (Carries b k) m x z → at steps x + m ≤ chain_limit → at steps z ≤ at steps x + m
  unfolding Carries
  on here h = omega arith
  on {x = x} (through {n = m} y link c) h =
      let (i, a, net) = net_where good Membership k link in
      let one : at steps y ≤ at steps x + 1 =
      rw (a.has_key, a.has_id) at (w.near i a.of net (rw a.has_key (omega arith))) in
      omega (arith, on c (omega arith))

  -- No chain has fewer records than the steps.
  pub walked : {m z : ℕ} → Chain (Carries b k) m start z → m ≤ chain_limit → at steps z ≤ m
  walked c h = omega (arith, w.starts, on c (omega (arith, w.starts)))

  pub backs : Backs steps before
  backs y h some few =
      ⊎_elim (λ e. absurd (omega (arith, ap (at steps) e, w.starts))) (λ s. ⊎_elim (λ e. absurd (omega arith)) (λ l. (l.named, l.step)) s)
      (w.back y h)

  pub short : Short steps
  short y h = ⊎_elim (λ e. omega (arith, ap (at steps) e, w.starts)) (λ s. ⊎_elim (λ e. omega arith) (λ l. omega (arith, l.within)) s) (w.back y h)

  -- A name that is reached at all is by a chain.
  pub few_steps : (y : ℕ) → IsName y → at steps y < far → at steps y ≤ chain_limit
  few_steps y h l = ⊎_elim (λ e. omega (arith, ap (at steps) e, w.starts)) (λ s. ⊎_elim (λ e. absurd (omega arith)) (λ l. l.within) s) (w.back y h)

  -- The names that are written are those on a chain.
  module _ {to : ℕ} {names names' : List ℕ} (few : at steps to ≤ chain_limit) (long : most_names ≤ length names) (t : Traced steps before to 0 names names') where
    abbrev n : ℕ
    n = at steps to

    pub on_size : length (take (n + 1) names') ≡ n + 1
    on_size = length-take-le (n + 1) names' (omega (arith, t.same_length))

    same : (i : ℕ) → i < n + 1 → get_or (take (n + 1) names') i 0 ≡ get_or names' i 0
    same i h = get_or-take (n + 1) names' i 0 h

    -- A name that is reached by no record is the start.
    first : get_or names' 0 0 ≡ start
    first =
        let zero = t.away 0 (omega arith) (omega arith) in
        ⊎_elim (λ e. e) (λ s. absurd (⊎_elim (λ e. omega arith) (λ l. omega (arith, l.step)) s)) (w.back (get_or names' 0 0) (t.named 0 (omega arith) (omega arith)))

    link : (i : ℕ) → i < n → Carries b k (get_or names' i 0) (get_or names' (i + 1) 0)
    link i h =
        let y = get_or names' (i + 1) 0 in
        let away = t.away (i + 1) (omega arith) (omega arith) in
        ⊎_elim (λ e. absurd (omega (arith, ap (at steps) e, w.starts)))
        (λ s. ⊎_elim (λ e. absurd (omega arith)) (λ l. rw (t.behind i (omega arith) h) l.carried) s)
        (w.back y (t.named (i + 1) (omega arith) (omega arith)))

    pub on_chain : Names (Carries b k) start (take (n + 1) names')
    on_chain = record {
      some = omega (arith, on_size);
      few = omega (arith, on_size);
      starts = same 0 (omega arith) ∙ first;
      linked = λ i h. rw (same i (omega (arith, on_size)), same (i + 1) (omega (arith, on_size))) (link i (omega (arith, on_size)));
    }

    pub on_last : last (take (n + 1) names') ≡ to
    on_last = let e : length (take (n + 1) names') - 1 ≡ n = omega (arith, on_size) in rw (e, same n (omega arith)) t.ends

    pub on_front : names' ≡ take (n + 1) names' ++ drop (length (take (n + 1) names')) names
    on_front = rw on_size (front (n + 1) names names' t.same_length (λ i h. t.past i (omega arith)))

-- ---- both sides

pub granting : (b : List ℕ) (k : ℕ) (us os : List ℕ) (i : ℕ) → Granted b k us os (Some i) → Of b Permission i
unfolding Granted
granting b k us os i at_i = at_i.0

object_most : (os : List ℕ) (g : ℕ) → at_object os g ≤ at os g
object_most os g = go (eqb g 0)
  where
    go : (t : Bool) → cond t 0 (at os g) ≤ at os g
    go true = omega arith
    go false = omega arith

take_one : (l : List ℕ) → 0 < length l → get_or l 0 0 ≡ 0 → ZeroAlone (take 1 l)
take_one [] h z = absurd (omega arith)
take_one (x ∷ l) h z = ap (λ (y : ℕ). y ∷ []) z

module _ {b : List ℕ} (good : Good b) {u o k : ℕ} (right : k < right_count) {us ub os ob : List ℕ} (wu : Walk b k u us ub) (wo : Walk b k o os ob) where
  -- The P record that a slip ends at has no more steps between than the slip has records.
  slip_steps : {xs ys : List ℕ} → Slip b u o k xs ys
      → (j : ℕ) × Of b Permission j × NetAt b j k × (between b us os j + 2 ≤ length xs + length ys)
  slip_steps {xs} {ys} p =
      let (j, a, net) = net_where good Permission k p.grant in
      let user : at us (last xs) + 1 ≤ length xs = one_less wu xs p.user_names in
      let object : at_object os (last ys) + 1 ≤ length ys =
      ⊎_elim (λ n. omega (arith, object_most os (last ys), one_less wo ys n)) (λ z. omega (arith, at_zero os (ap last z), ap length z)) p.object_names in
      (j, a.of, net, rw (a.has_id, a.has_key) (omega arith))
    where
      one_less : {x : ℕ} {steps before : List ℕ} → Walk b k x steps before → (l : List ℕ) → Names (Carries b k) x l → at steps (last l) + 1 ≤ length l
      one_less w l n = omega (arith, walked good w (names_chain l n) (omega (arith, n.few)), n.some)

  -- Where no P record is reached, the right is not held.
  pub not_held : Granted b k us os None → Holds chain_limit b u o k → ⊥
  unfolding Granted
  not_held none h =
      let (xs, ys, p) = holds_slip h in
      let (j, of, net, few) = slip_steps p in
      omega (arith, none j of net, p.user_names.few, ⊎_elim (λ n. n.few) (λ z. omega (arith, ap length z)) p.object_names)

  -- Where the nearest one is record i, its names are reached, and those that are written are a shortest slip.
  module _ (i : ℕ) (at_i : Granted b k us os (Some i)) where
    pub user_reached : at us (id b i) ≤ chain_limit
    unfolding Granted
    user_reached = few_steps good wu (id b i) (good.ids i (of_records Permission b i at_i.0)) (omega (arith, at_i.2))

    pub object_reached : at_object os (key b i) ≤ chain_limit
    unfolding Granted
    object_reached =
        elim (ℕ_discrete (key b i) 0) [
          | yes e ↦ omega (arith, at_zero os e)
          | no ne ↦
              omega
              (arith, at_other os (key b i) ne, few_steps good wo (key b i) (good.keys i (of_records Permission b i at_i.0)) (omega (arith, at_i.2, at_other os (key b i) ne)))
        ]

    module _ (passes : Passes b o k) (opened : Open chain_limit b u o) {ul ul' ol ol' : List ℕ} (ulong : most_names ≤ length ul)
        (olong : most_names ≤ length ol) (ut : Traced us ub (id b i) 0 ul ul') (ot : ObjectTraced os ob (key b i) ol ol') where
      abbrev xs : List ℕ
      xs = take (at us (id b i) + 1) ul'

      abbrev ys : List ℕ
      ys = take (at_object os (key b i) + 1) ol'

      object_size : length ys ≡ at_object os (key b i) + 1
      object_size = length-take-le (at_object os (key b i) + 1) ol' (omega (arith, object_reached, ot.same_length))

      -- The object's side, and where it ends.
      side : (Names (Carries b k) o ys ⊎ ZeroAlone ys) × (last ys ≡ key b i)
      side =
          elim (ℕ_discrete (key b i) 0) [
            | yes e ↦
                let z : ZeroAlone ys = rw (at_zero os e) (take_one ol' (omega (arith, ot.same_length)) (ot.zero e)) in
                (inr z, ap last z ∙ sym e)
            | no ne ↦
                let same = at_other os (key b i) ne in
                let few : at os (key b i) ≤ chain_limit = omega (arith, same, object_reached) in
                rw same (inl (on_chain good wo few olong (ot.chain ne)), on_last good wo few olong (ot.chain ne))
          ]

      written : ol' ≡ ys ++ drop (length ys) ol
      written = rw object_size (front (at_object os (key b i) + 1) ol ol' ot.same_length (λ j h. ot.past j (omega arith)))

      slip : Slip b u o k xs ys
      unfolding Granted
      slip = record {
        user_names = on_chain good wu user_reached ulong ut;
        object_names = side.0;
        grant = rw (side.1, on_last good wu user_reached ulong ut) ((net_at good Permission k right (at_self at_i.0)).0 at_i.1);
        filters = passes;
        exclusive = opened;
      }

      shortest : Shortest b u o k xs ys
      unfolding Granted
      shortest = record {
        slip = slip;
        least = λ us' os' p.
            let (j, of, net, few) = slip_steps p in
            omega (arith, at_i.3 j of net, on_size good wu user_reached ulong ut, object_size);
      }

      pub is_found : Found b u o (2 ^ k) ul ol (0, at us (id b i) + 1, at_object os (key b i) + 1, ul', ol')
      is_found =
          let n = sym (on_size good wu user_reached ulong ut) in
          let m = sym object_size in
          let l = on_front good wu user_reached ulong ut in
          let w = written in
          (xs, ys, (k, right, refl, shortest), λ j. (0, n j, m j, l j, w j))
