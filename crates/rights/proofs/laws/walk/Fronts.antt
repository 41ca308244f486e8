-- The list of the names whose marks grow in a round.
use Prim.Native.Nat.{ℕ, suc, ◌+◌, ◌<◌, ◌≤◌}
use mathlib.Core.Path.{◌≡◌, refl, sym, subst, ◌∙◌}
use mathlib.Core.Bool.{Bool, true, false}
use mathlib.Core.List.{List, [], ◌∷◌, ◌++◌}
use mathlib.Core.Logic.{◌⊎◌, ◌↔◌, inl, inr, ⊎_elim}
use native.Mathlib.Omega.{arith}
use native.Mathlib.Nat.{eq-or-lt_of_le}
use native.Mathlib.Decide.{ℕ_discrete, dec_lt}
use lib.ListN.{length, get_or, set, get_or-eq_default}
use lib.Seq.{get_or-set_same, get_or-set_other, ext_get_or}
use Rattle.std.specs.Bool.{if◌then◌else◌}
use Rattle.std.proofs.Common.{length-append}
use Rattle.std.proofs.Math.ListN.{get_or-append}
use Rattle.std.proofs.Math.Seq.{get_or-append_seam}
use Rattle.index.specs.Block.{name_count, IsName}
use Rattle.index.specs.work.Checks.{Says}
use Rattle.rights.specs.Examined.{HowMany}
use Rattle.rights.specs.work.Marks.{Grew}
use Rattle.rights.specs.work.Fronts.{Among, Once, Front, Named}
use Rattle.rights.proofs.laws.Counting.{at_most, count_map, count_none, count_one}

-- ---- a list of names

-- The first n + 1 names are the first n and one more.
pub among_more : (names : List ℕ) (n z : ℕ) → Among names (n + 1) z ↔ (Among names n z ⊎ (get_or names n 0 ≡ z))
among_more names n z = (
  (λ a.
      ⊎_elim (λ e. inr (subst (λ (j : ℕ). get_or names j 0 ≡ z) e a.2)) (λ l. inl (a.0, l, a.2))
      (eq-or-lt_of_le {n = a.0} {m = n} (omega (arith, a.1)))),
  (λ s. ⊎_elim (λ a. (a.0, omega (arith, a.1), a.2)) (λ e. (n, omega arith, e)) s),
)

-- A name that is put after the first n changes none of them.
module _ (names : List ℕ) (n y : ℕ) where
  pub at_set : (j : ℕ) → j < n → get_or (set names n y) j 0 ≡ get_or names j 0
  at_set j l = get_or-set_other names n j y 0 (λ e. omega arith)

  pub among_set : (j z : ℕ) → j ≤ n → Among (set names n y) j z ↔ Among names j z
  among_set j z l = (
    (λ a. (a.0, a.1, sym (at_set a.0 (omega (arith, a.1))) ∙ a.2)),
    (λ a. (a.0, a.1, at_set a.0 (omega (arith, a.1)) ∙ a.2)),
  )

  pub once_set : Once names n → Once (set names n y) n
  once_set once j l a = once j l ((among_set j (get_or names j 0) (omega arith)).0 (rw (at_set j l) at a))

-- A name that is put at the end changes none of those before it.
module _ (names : List ℕ) (y : ℕ) where
  at_put : (j : ℕ) → j < length names → get_or (names ++ y ∷ []) j 0 ≡ get_or names j 0
  at_put j l = get_or-append names (y ∷ []) 0 j l

  among_put : (j z : ℕ) → j ≤ length names → Among (names ++ y ∷ []) j z ↔ Among names j z
  among_put j z l = (
    (λ a. (a.0, a.1, sym (at_put a.0 (omega (arith, a.1))) ∙ a.2)),
    (λ a. (a.0, a.1, at_put a.0 (omega (arith, a.1)) ∙ a.2)),
  )

  long_put : length (names ++ y ∷ []) ≡ length names + 1
  long_put = simp length-append

  last_put : get_or (names ++ y ∷ []) (length names) 0 ≡ y
  last_put = get_or-append_seam names y [] 0

  -- On the list are those that were, and it.
  on_put : (z : ℕ) → Among (names ++ y ∷ []) (length (names ++ y ∷ [])) z ↔ (Among names (length names) z ⊎ (y ≡ z))
  on_put z =
      rw long_put
      (let more = among_more (names ++ y ∷ []) (length names) z in
      let a = among_put (length names) z (omega arith) in (
        (λ w. ⊎_elim (λ p. inl (a.0 p)) (λ e. inr (sym last_put ∙ e)) (more.0 w)),
        (λ s. more.1 (⊎_elim (λ p. inl (a.1 p)) (λ e. inr (last_put ∙ e)) s)),
      ))

  -- Each stands there once, if it was not there.
  once_put : Once names (length names) → (Among names (length names) y → ⊥) → Once (names ++ y ∷ []) (length (names ++ y ∷ []))
  once_put once new j l a =
      ⊎_elim
      (λ e. new ((among_put (length names) y (omega arith)).0 (subst (λ (z : ℕ). Among (names ++ y ∷ []) (length names) z) last_put
      (subst (λ (i : ℕ). Among (names ++ y ∷ []) i (get_or (names ++ y ∷ []) i 0)) e a))))
      (λ h. once j h (rw (at_put j h) at ((among_put j (get_or (names ++ y ∷ []) j 0) (omega arith)).0 a)))
      (eq-or-lt_of_le {n = j} {m = length names} (omega (arith, l, long_put)))

-- Of all names, those on a list of n names on which each stands once are n.
pub once_many : (names : List ℕ) (n : ℕ) → Once names n → ((j : ℕ) → j < n → IsName (get_or names j 0)) → HowMany (Among names n) name_count n
once_many names ℕ.zero once each = count_none (Among names 0) name_count (λ z l a. omega (arith, a.1))
once_many names (suc n) once each =
    let e : n + 1 ≡ suc n = omega arith in
    subst (λ (c : ℕ). HowMany (Among names c) name_count (suc n)) e
    (count_map (λ z l. let m = among_more names n z in (m.1, m.0))
    (count_one (get_or names n 0) (once n (omega arith)) (each n (omega arith))
    (once_many names n (λ j l. once j (omega arith)) (λ j l. each j (omega arith)))))

-- ---- what is on it

-- No mark grew yet.
pub front_none : (ms : List ℕ) → Front ms ms []
front_none ms = record {
  above = λ z. omega arith;
  listed = λ z. ((λ a. absurd (omega (arith, a.1))), (λ g. absurd (g refl)));
  once = λ j l. absurd (omega arith);
}

module _ {old ms names : List ℕ} (front : Front old ms names) where
  -- A mark that is not on it is as it was.
  pub front_same : (z : ℕ) → (Among names (length names) z → ⊥) → get_or old z 0 ≡ get_or ms z 0
  front_same z none =
      elim (ℕ_discrete (get_or old z 0) (get_or ms z 0)) [
        | yes e ↦ e
        | no ne ↦ absurd (none ((front.listed z).1 ne))
      ]

  -- On it are names, since only names have marks, so they are few.
  module _ (of_old : length old ≡ name_count) (of_ms : length ms ≡ name_count) where
    each : (j : ℕ) → j < length names → IsName (get_or names j 0)
    each j l =
        elim (dec_lt (get_or names j 0) name_count) [
          | yes h ↦ h
          | no f ↦
              absurd
              ((front.listed (get_or names j 0)).0 (j, l, refl)
              (get_or-eq_default old 0 {n = get_or names j 0} (omega arith) ∙ sym (get_or-eq_default ms 0 {n = get_or names j 0} (omega arith))))
        ]

    pub front_few : length names ≤ name_count
    front_few = at_most (once_many names (length names) front.once each)

    pub front_named : Named names
    front_named = record { each = each; once = front.once }

  -- The mark of y becomes v, and y is put at the end, if it grows for the first time.
  module _ (y v : ℕ) (inside : y < length ms) (up : get_or ms y 0 ≤ v) where
    at_y : get_or (set ms y v) y 0 ≡ v
    at_y = get_or-set_same ms y v 0 inside

    off_y : (z : ℕ) → (z ≡ y → ⊥) → get_or (set ms y v) z 0 ≡ get_or ms z 0
    off_y z ne = get_or-set_other ms y z v 0 ne

    above : (z : ℕ) → get_or old z 0 ≤ get_or (set ms y v) z 0
    above z =
        elim (ℕ_discrete z y) [
          | yes e ↦ rw (e, at_y) (omega (arith, front.above y))
          | no ne ↦ rw (off_y z ne) (front.above z)
        ]

    front_keep : (((get_or old y 0 ≡ get_or ms y 0) × (get_or ms y 0 ≡ v → ⊥)) → ⊥) → Front old (set ms y v) names
    front_keep not_new = record { above = above; listed = here; once = front.once }
      where
        at : Among names (length names) y ↔ (get_or old y 0 ≡ v → ⊥)
        at =
            elim (ℕ_discrete (get_or ms y 0) v) [
              | yes e ↦ subst (λ (m : ℕ). Among names (length names) y ↔ (get_or old y 0 ≡ m → ⊥)) e (front.listed y)
              | no ne ↦ (
                (λ a q. not_new (omega (arith, front.above y), ne)),
                (λ g. (front.listed y).1 (λ e. not_new (e, ne))),
              )
            ]

        here : (z : ℕ) → Among names (length names) z ↔ Grew old (set ms y v) z
        here z =
            elim (ℕ_discrete z y) [
              | yes e ↦ rw (e, at_y) at
              | no ne ↦ rw (off_y z ne) (front.listed z)
            ]

    pub front_push : get_or old y 0 ≡ get_or ms y 0 → (get_or ms y 0 ≡ v → ⊥) → Front old (set ms y v) (names ++ y ∷ [])
    front_push same new = record {
      above = above;
      listed = λ z. elim (ℕ_discrete z y) [
        | yes e ↦ rw (e, at_y) ((λ a q. new (sym same ∙ q)), (λ g. (on_put names y y).1 (inr refl)))
        | no ne ↦ rw (off_y z ne) (
          (λ a. (front.listed z).0 (⊎_elim (λ w. w) (λ e. absurd (ne (sym e))) ((on_put names y z).0 a))),
          (λ g. (on_put names y z).1 (inl ((front.listed z).1 g))),
        )
      ];
      once = once_put names y front.once (λ a. (front.listed y).0 a same);
    }

    pub front_put : (stays : Bool) → Says ((get_or old y 0 ≡ get_or ms y 0) × (get_or ms y 0 ≡ v → ⊥)) stays
        → Front old (set ms y v) (if stays then names ++ y ∷ [] else names)
    front_put true told = front_push told.0 told.1
    front_put false told = front_keep told

-- ---- the marks that are kept

-- After the first j names, the mark of z is the one to keep, or it is as it was, and z is none of them.
abbrev pub Kept : List ℕ → List ℕ → List ℕ → ℕ → List ℕ → Type 0
Kept names from old j to = (z : ℕ) → (get_or to z 0 ≡ get_or from z 0) ⊎ ((get_or to z 0 ≡ get_or old z 0) × (Among names j z → ⊥))

pub kept_none : (names from old : List ℕ) → Kept names from old 0 old
kept_none names from old z = inr (refl, λ a. omega (arith, a.1))

module _ (names from old to : List ℕ) (j : ℕ) (kept : Kept names from old j to) where
  pub kept_more : (x : ℕ) → x ≡ get_or names j 0 → x < length to → Kept names from old (j + 1) (set to x (get_or from x 0))
  kept_more x is inside z =
      elim (ℕ_discrete z x) [
        | yes e ↦ inl (rw e (get_or-set_same to x (get_or from x 0) 0 inside))
        | no ne ↦
            let off = get_or-set_other to x z (get_or from x 0) 0 ne in
            ⊎_elim (λ e. inl (off ∙ e))
            (λ p. inr (off ∙ p.0, λ a. ⊎_elim p.1 (λ q. ne (sym q ∙ sym is)) ((among_more names j z).0 a))) (kept z)
      ]

  pub kept_all : Front old from names → j ≡ length names → length to ≡ length from → to ≡ from
  kept_all front all long =
      ext_get_or 0 to from long
      (λ z h. ⊎_elim (λ e. e) (λ p. p.0 ∙ front_same front z (rw all at p.1)) (kept z))
