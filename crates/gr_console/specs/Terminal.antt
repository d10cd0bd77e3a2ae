-- A reader with prompts and a writer with explanations, as contracts speak of them: they carry the bytes of the devices within
-- them.
use Rattle.gr_console.specs.declared.terminal.Prompted.{Prompted}
use Rattle.gr_console.specs.declared.terminal.Explained.{Explained}

-- the reader within
abbrev pub reader_of : {R S : Type 0} → Prompted R S → R
reader_of prompted = prompted.reader

-- the writer within
abbrev pub writer_of : {W S : Type 0} → Explained W S → W
writer_of explained = explained.writer
