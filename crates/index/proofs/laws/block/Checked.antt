-- A block is good where its header, its three parts and its tail are, and then only.
use Prim.Native.Nat.{ℕ, zero, suc, ◌+◌, ◌-◌, ◌/◌, ◌%◌, ◌<◌, ◌≤◌}
use mathlib.Core.Path.{◌≡◌, refl, sym, ◌∙◌}
use mathlib.Core.Bool.{Bool, true, false, cond}
use mathlib.Core.Logic.{⊎_elim}
use mathlib.Core.List.{List}
use native.Mathlib.Nat.{eq-or-lt_of_le}
use native.Mathlib.Omega.{arith}
use lib.Bits.{bit_or, or_shr, or_mod, or_add_and, and_le_l, and_le_r}
use lib.Dec.{ltb}
use lib.ListN.{get_or}
use Rattle.index.specs.declared.Kind.{Kind}
use Rattle.index.specs.declared.Kind.TheVariants.{Membership, Permission, Filter}
use Rattle.index.specs.declared.block.checks.Sight.{Sight}
use Rattle.index.specs.Letters.{letter_count, right_count, marker_x, marker_n, may_have}
use Rattle.index.specs.Block.{place, key, id, count_at, from, size, records, Before, Good}
use Rattle.index.specs.work.Checks.{Says, Header, Counted, Allowed, Part, Zero}
use Rattle.index.specs.work.Edits.{four_at, two_at, small_at, markers_at, barred_at}
use Rattle.index.specs.work.Sights.{rank, Follows, SeesMore, Fair}
use Rattle.index.proofs.laws.Answer.{says_same, less_says}
use Rattle.index.proofs.laws.block.Bytes.{count_out}
use Rattle.index.proofs.laws.block.MayHave.{capital, not_both, small_alike, marker_alike}
use Rattle.index.proofs.laws.Range.{lt_or_le, from_more}
use Rattle.index.proofs.laws.block.Records.{before_spot, spot_before}
use Rattle.index.proofs.laws.block.Seen.{Seen, seen_none, seen_more}
use Rattle.index.proofs.laws.block.Together.{together}
use Rattle.index.proofs.laws.block.Splice.{good_record}

-- ---- four counts as one number

module _ (b : List ℕ) (i s : ℕ) where
  some : 0 < four_at b i s → (j : ℕ) × (j < 4) × (0 < count_at b i (s + j))
  some h =
      ⊎_elim (λ p. (1, omega arith, p))
      (λ (p : count_at b i (s + 1) ≤ 0).
      ⊎_elim (λ q. (2, omega arith, q))
      (λ (q : count_at b i (s + 2) ≤ 0).
      ⊎_elim (λ r. (3, omega arith, r))
      (λ (r : count_at b i (s + 3) ≤ 0). (0, omega arith, let z : s + 0 ≡ s = omega arith in rw z (omega arith)))
      (lt_or_le 0 (count_at b i (s + 3))))
      (lt_or_le 0 (count_at b i (s + 2))))
      (lt_or_le 0 (count_at b i (s + 1)))

  none : four_at b i s ≡ 0 → (j : ℕ) → j < 4 → count_at b i (s + j) ≡ 0
  none e zero h = let z : s + 0 ≡ s = omega arith in rw z (omega arith)
  none e (suc zero) h = omega arith
  none e (suc (suc zero)) h = omega arith
  none e (suc (suc (suc zero))) h = omega arith
  none e (suc (suc (suc (suc j)))) h = absurd (omega arith)

  pub four_none : four_at b i s ≡ 0 → (k : ℕ) → s ≤ k → k < s + 4 → count_at b i k ≡ 0
  four_none e k l h = let q : s + (k - s) ≡ k = omega arith in rw q at (none e (k - s) (omega arith))

module _ (b : List ℕ) (i : ℕ) where
  pub four_counted : (s : ℕ) → s + 4 ≤ letter_count → 0 < four_at b i s → Counted b i
  four_counted s l h = let w = some b i s h in (s + w.0, omega (arith, w.1), w.2)

  two_counted : 0 < two_at b i → Counted b i
  two_counted h =
      ⊎_elim (λ p. (marker_x, omega arith, p)) (λ (p : count_at b i marker_x ≤ 0). (marker_n, omega arith, omega arith))
      (lt_or_le 0 (count_at b i marker_x))

  two_none : two_at b i ≡ 0 → (k : ℕ) → marker_x ≤ k → count_at b i k ≡ 0
  two_none e k l =
      ⊎_elim (λ h. let z : k ≡ marker_x = omega arith in rw z (omega arith))
      (λ h.
      ⊎_elim (λ m. let z : k ≡ marker_n = omega arith in rw z (omega arith)) (λ m. count_out b i k m) (lt_or_le k letter_count))
      (lt_or_le k marker_n)

  -- Where the four capital letters and the four small ones count nothing, the markers decide.
  pub markers_say : four_at b i 0 ≡ 0 → four_at b i right_count ≡ 0 → Says (Counted b i) (ltb 0 (two_at b i))
  markers_say d e = says_same (ltb 0 (two_at b i)) two_counted only (less_says 0 (two_at b i))
    where
      only : Counted b i → 0 < two_at b i
      only (k, l, h) =
          ⊎_elim (λ (p : 0 < two_at b i). p)
          (λ p.
          ⊎_elim (λ m. absurd (omega (arith, h, four_none b i 0 d k (omega arith) m)))
          (λ m.
          ⊎_elim (λ q. absurd (omega (arith, h, four_none b i right_count e k m q)))
          (λ q. absurd (omega (arith, h, two_none (omega arith) k q))) (lt_or_le k marker_x))
          (lt_or_le k right_count))
          (lt_or_le 0 (two_at b i))

-- The counts that a record may not have are all zero where they are, joined.
or_none : (m n : ℕ) → bit_or m n ≡ 0 → (m ≡ 0) × (n ≡ 0)
or_none m n e = (omega (arith, or_add_and m n, and_le_r m n), omega (arith, or_add_and m n, and_le_l m n))

pub barred_allowed : (kind : Kind) (b : List ℕ) (i : ℕ) → barred_at b kind i ≡ 0 → Allowed b kind i
barred_allowed kind b i e k n =
    let p = or_none (small_at b kind i) (markers_at b kind i) e in
    ⊎_elim (λ h. not_both kind k n (capital kind k h))
    (λ l.
    ⊎_elim
    (λ h. four_none b i right_count (rw (sym (small_alike kind k l h) ∙ n) at p.0) k l h)
    (λ m.
    ⊎_elim (λ h. two_none b i (rw (sym (marker_alike kind k m h) ∙ n) at p.1) k m) (λ h. count_out b i k h)
    (lt_or_le k letter_count))
    (lt_or_le k marker_x))
    (lt_or_le k right_count)

pub allowed_barred : (kind : Kind) (b : List ℕ) (i : ℕ) → Allowed b kind i → barred_at b kind i ≡ 0
allowed_barred kind b i a = rw (small (may_have kind right_count) refl, markers (may_have kind marker_x) refl)
  where
    small : (t : Bool) → may_have kind right_count ≡ t → cond t 0 (four_at b i right_count) ≡ 0
    small true e = refl
    small false e =
        let z : (k : ℕ) → right_count ≤ k → k < marker_x → count_at b i k ≡ 0 = λ k l h. a k (small_alike kind k l h ∙ e) in
        omega (arith, z 4 (omega arith) (omega arith), z 5 (omega arith) (omega arith), z 6 (omega arith) (omega arith), z 7 (omega arith) (omega arith))

    markers : (t : Bool) → may_have kind marker_x ≡ t → cond t 0 (two_at b i) ≡ 0
    markers true e = refl
    markers false e = omega (arith, a marker_x e, a marker_n (marker_alike kind marker_n (omega arith) (omega arith) ∙ e))

-- ---- a part, record by record

pub part_none : {b : List ℕ} {kind : Kind} {i : ℕ} (j : ℕ) → j ≤ i → Part b kind i j
part_none j l = record { each = λ n k h. absurd (omega arith); rising = λ n k h. absurd (omega arith) }

-- The records numbered i to n - 1 pass as ones of the kind, but for what was joined of them in `sight`.
pub record Passed (b : List ℕ) (kind : Kind) (i n : ℕ) (sight : Sight) : Type 0 where
  pub counts : (m : ℕ) → i ≤ m → m < n → Counted b m
  pub rising : (m : ℕ) → i ≤ m → m + 1 < n → Before b m (m + 1)
  pub first : i ≡ n → sight.least ≡ 0
  pub last : (m : ℕ) → i ≤ m → m + 1 ≡ n → sight.least ≡ rank b m + 1
  pub keys : Seen 10 (key b) i n (sight.names / 65536)
  pub ids : Seen 10 (id b) i n (sight.names % 65536)
  pub allowed : Seen 0 (barred_at b kind) i n sight.barred

pub passed_none : (b : List ℕ) (kind : Kind) (i : ℕ) → Passed b kind i i (record { least = 0; names = 0; barred = 0 })
passed_none b kind i =
    record {
      counts = λ m l h. absurd (omega arith);
      rising = λ m l h. absurd (omega arith);
      first = λ _. refl;
      last = λ m l e. absurd (omega arith);
      keys = seen_none 10 (key b) i;
      ids = seen_none 10 (id b) i;
      allowed = seen_none 0 (barred_at b kind) i;
    }

pub passed_more : {b : List ℕ} {kind : Kind} {i n : ℕ} {old new : Sight} → i ≤ n → Passed b kind i n old
    → Follows b n old.least → SeesMore b kind n old new → Passed b kind i (n + 1) new
passed_more {b} {kind} {i} {n} {old} {new} l p f s =
    record {
      counts = from_more (Counted b) i n p.counts f.counted;
      rising =
          λ m k h.
          ⊎_elim (λ o. p.rising m k o)
          (λ o.
          let e : m + 1 ≡ n = omega arith in
          spot_before {w = 65536} b m (m + 1) (rw e s.id_small) (rw e (omega (arith, f.high, p.last m k e))))
          (lt_or_le (m + 1) n);
      first = λ e. absurd (omega arith);
      last = λ m k e. let q : m ≡ n = omega arith in rw q s.least;
      keys =
          let e : rank b n / 65536 ≡ key b n = omega (arith, s.id_small) in
          rw (s.names, or_shr old.names (rank b n) 16, e) (seen_more l p.keys);
      ids =
          let e : rank b n % 65536 ≡ id b n = omega (arith, s.id_small) in
          rw (s.names, or_mod old.names (rank b n) 16, e) (seen_more l p.ids);
      allowed = rw s.barred (seen_more l p.allowed);
    }

-- Where the whole part is good, the record after those that passed does follow.
pub part_follows : {b : List ℕ} {kind : Kind} {i j n : ℕ} {sight : Sight} → i ≤ n → n < j → Passed b kind i n sight
    → Part b kind i j → Follows b n sight.least
part_follows {b} {kind} {i} {j} {n} {sight} l h p whole =
    record {
      high =
          ⊎_elim (λ e. omega (arith, p.first e))
          (λ k.
          let e : n - 1 + 1 ≡ n = omega arith in
          let r = (whole.each (n - 1) (omega arith) (omega arith)).id_below in
          let s = before_spot {w = 65536} b (n - 1) (n - 1 + 1) (omega arith) (whole.rising (n - 1) (omega arith) (omega arith)) in
          omega (arith, rw e at s, p.last (n - 1) (omega arith) e))
          (eq-or-lt_of_le l);
      counted = (whole.each n l h).counted;
    }

-- Where all have passed, what was joined of them tells the rest.
pub passed_part : {b : List ℕ} {kind : Kind} {i j : ℕ} {sight : Sight} → Passed b kind i j sight → Fair sight → Part b kind i j
passed_part {b} {kind} p f =
    record {
      each =
          λ m k h.
          record {
            key_below = p.keys.each_then f.keys m k h;
            id_below = p.ids.each_then f.ids m k h;
            counted = p.counts m k h;
            allowed = barred_allowed kind b m (omega (arith, p.allowed.each_then (omega (arith, f.none_barred)) m k h));
          };
      rising = p.rising;
    }

pub part_fair : {b : List ℕ} {kind : Kind} {i j : ℕ} {sight : Sight} → Passed b kind i j sight → Part b kind i j → Fair sight
part_fair {b} {kind} p whole =
    record {
      none_barred =
          omega (arith, p.allowed.only_then (λ m k h. omega (arith, allowed_barred kind b m (whole.each m k h).allowed)));
      keys = p.keys.only_then (λ m k h. (whole.each m k h).key_below);
      ids = p.ids.only_then (λ m k h. (whole.each m k h).id_below);
    }

-- ---- the whole

pub header_of : {b : List ℕ} → Good b → Header b
header_of g =
    record {
      zero_at_6 = g.zero_at_6;
      m_offset = g.m_offset;
      p_offset = g.p_offset;
      f_offset = g.f_offset;
      end_offset = g.end_offset;
      fits = g.fits;
    }

pub each_kind : (P : Kind → Type 0) → P Membership → P Permission → P Filter → (kind : Kind) → P kind
each_kind P m p f Membership = m
each_kind P m p f Permission = p
each_kind P m p f Filter = f

abbrev pub Whole : List ℕ → Kind → Type 0
Whole b kind = Part b kind (from b kind) (from b kind + size b kind)

pub part_of : {b : List ℕ} → Good b → (kind : Kind) → Whole b kind
part_of g kind =
    record {
      each = λ n l h. good_record g kind n (l, h);
      rising = λ n l h. g.rising kind n (omega arith) (omega arith);
    }

pub good_of : {b : List ℕ} → ((t : ℕ) → get_or b t 0 < 256) → Header b → ((kind : Kind) → Whole b kind)
    → Zero b (place (records b)) → Good b
good_of {b} bytes h parts =
    together bytes h (λ kind i o. (parts kind).each i o.0 o.1)
    (λ kind i o p.
    before_spot b i (i + 1) ((parts kind).each i o.0 o.1).id_below ((parts kind).rising i o.0 p.1))
