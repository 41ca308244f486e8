-- `index::text::reading::reaches` ends: there are d digits more at most.
use Rattle.index.proofs.text.reading.+reaches.Given as goal

abbrev pub decreases-reaches : goal.decreases-reaches
decreases-reaches l = l.d
