-- For proofs only: the values of the answers of the libraries below, and what it is for a reader's to fit.
use Rattle.std.specs.Prelude.{ℕ, ◌+◌, ◌*◌, ◌<◌, Option, Some, None, Result, Ok, Err}
use Rattle.index.specs.declared.refusals.ReadError.{ReadError}
use Rattle.index.specs.declared.refusals.ReadError.TheVariants as unread
use Rattle.calendar.specs.declared.Date.{Date}
use Rattle.rights.specs.declared.grants.Reach.{Reach}
use Rattle.slips.specs.declared.Slip.{Slip}

-- An answer without a value.
abbrev pub no_value : Unit {0} → ℕ
no_value u = 0

-- The day of the next change, or 0.
abbrev pub day_or_none : Option ℕ → ℕ
day_or_none (Some n) = n
day_or_none None = 0

abbrev pub date_value : Date → ℕ
date_value d = d.day + 32 * d.month + 512 * d.year

abbrev pub rights_value : Reach → ℕ
rights_value r = r.rights + 16 * r.user + 262144 * r.object

abbrev pub chains_value : Option Slip → ℕ
chains_value (Some s) = s.users + 256 * s.objects
chains_value None = 0

abbrev pub ReadFits : Result ℕ ReadError → Type 0
ReadFits (Ok n) = n < 4294967296
ReadFits (Err (unread.NotASet place)) = place < 4294967296
ReadFits (Err (unread.Refused e)) = Unit {0}
