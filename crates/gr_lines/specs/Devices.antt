-- A reader or a writer with a count of its failures, as contracts speak of it.
use Rattle.std.specs.Prelude.{◌≡◌, ℕ, ◌+◌, ◌≤◌, min, List, Option}
use Rattle.gr_lines.specs.declared.counted.Counted.{Counted}

-- the reader or writer itself
abbrev pub device_of : {T : Type 0} → Counted T → T
device_of counted = counted.inner

-- how often it failed, as far as that is counted
abbrev pub failures_of : {T : Type 0} → Counted T → ℕ
failures_of counted = counted.failures

-- how often it may still be read
abbrev pub left_of : {T : Type 0} → Counted T → ℕ
left_of counted = counted.left

-- one failure more, up to the greatest count
abbrev pub one_more : ℕ → ℕ
one_more failures = min (failures + 1) 0xFFFF_FFFF_FFFF_FFFF

-- a device failed between these counts of failures, the second of which may have stopped at the greatest
abbrev pub HasFailed : ℕ → ℕ → Type 0
HasFailed before after = one_more before ≤ after

-- what is known of a device: the bytes that a reader still has or a writer holds, if it tells them, and how often it failed
pub record Device : Type 0 where
  pub bytes : Option (List ℕ)
  pub failures : ℕ

-- a device before and after a call
pub record Change : Type 0 where
  pub old : Device
  pub new : Device

-- what is known of a device, by the words for the bytes of its kind
abbrev pub known : {T : Type 0} → (T → Option (List ℕ)) → Counted T → Device
known bytes counted = record { bytes = bytes (device_of counted); failures = failures_of counted }

abbrev pub change : {T : Type 0} → (T → Option (List ℕ)) → Counted T → Counted T → Change
change bytes old new = record { old = known bytes old; new = known bytes new }

-- the device failed during the call
abbrev pub Fails : Change → Type 0
Fails device = HasFailed device.old.failures device.new.failures

-- it did not fail during the call
abbrev pub NeverFails : Change → Type 0
NeverFails device = device.new.failures ≡ device.old.failures
