-- `index::text::writing::put_decimal` ends: the digits but for the last are of a lower number.
use Rattle.index.proofs.text.writing.+put_decimal.Given as goal

abbrev pub decreases-put_decimal : goal.decreases-put_decimal
decreases-put_decimal l = l.n
