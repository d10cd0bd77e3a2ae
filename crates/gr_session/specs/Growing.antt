-- When a journal makes room for further entries.
use Rattle.std.specs.Prelude.{◌≡◌, ℕ, ◌+◌, ◌%◌, ◌≤◌}
use Rattle.gr_session.specs.declared.TheConstants.{JOURNAL_GROWTH}

-- a journal of this length makes room for its next entries
abbrev pub Grows : ℕ → Type 0
Grows length = length % JOURNAL_GROWTH ≡ 0

-- it has room for the entries up to the next such length
abbrev pub HasRoom : ℕ → ℕ → Type 0
HasRoom length capacity = ¬ Grows length → length + JOURNAL_GROWTH ≤ capacity + length % JOURNAL_GROWTH
