-- For proofs only: what the functions on one appointment of a list, and on the list, do.
use Rattle.std.specs.Prelude.{ℕ, ◌<◌, ◌+◌, ◌*◌, ◌≤◌, ◌≡◌, min, true, cond, List, eqb, ltb, Option, Some, None}
use Rattle.index.specs.declared.Kind.TheVariants.{Membership}
use Rattle.index.specs.Letters.{all_rights}
use Rattle.index.specs.Message.{marker_mask, Marked}
use Rattle.calendar.specs.Dates.{date}
use Rattle.appointments.specs.declared.list.Entry.{Entry}
use Rattle.appointments.specs.Appointment.{Appointment, byte_of, number_of}
use Rattle.appointments.specs.Asking.{IsFirst}

-- Appointment i, by its bytes.
unfoldable pub entry : List ℕ → ℕ → Entry
entry l i = record {
  key = number_of l i 0;
  id = number_of l i 2;
  mask = byte_of l i 4;
  marker = byte_of l i 5;
  first = date (number_of l i 6) (byte_of l i 8) (byte_of l i 9);
  term = byte_of l i 10;
  zero = byte_of l i 11;
}

-- What it says.
unfoldable pub appointment_of : Entry → Appointment
appointment_of e = record {
  membership = record { kind = Membership; key = e.key; id = e.id; mask = e.mask + marker_mask * e.marker };
  first = e.first;
  term = e.term;
}

-- What 3 requires of it.
pub record Formed (e : Entry) : Type 0 where
  pub marked : Marked e.marker Membership true
  pub zero : e.zero ≡ 0

-- What 5 requires of it, by its mask byte.
pub record Lettered (e : Entry) : Type 0 where
  pub some : 0 < e.mask
  pub rights : e.mask ≤ all_rights

-- The earlier of two days, where 0 is none.
unfoldable pub sooner : ℕ → ℕ → ℕ
sooner a b = cond (eqb a 0) b (cond (eqb b 0) a (cond (ltb a b) a b))

-- The earlier of two days, where there are two.
abbrev pub earlier : Option ℕ → Option ℕ → Option ℕ
earlier (Some a) (Some b) = Some (min a b)
earlier (Some a) None = Some a
earlier None b = b

-- The first day after `day` that P holds of, if there is one in the range.
abbrev pub FirstDay : (ℕ → Type 0) → ℕ → Option ℕ → Type 0
FirstDay P day (Some n) = (0 < n) × IsFirst P day n
FirstDay P day None = IsFirst P day 0
