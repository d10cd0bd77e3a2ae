-- Pages of goroutines and channels: their codes, as they were written last.
use Rattle.std.specs.Prelude.{◌≡◌, ◌⊎◌, ℕ, Bool, false, if◌then◌else◌, List, [], ◌∷◌, ◌++◌, map, Option, Some, None}
use Rattle.std.specs.List.{list_any}
use Rattle.gr_base.specs.declared.names.ChName.{ChName}
use Rattle.gr_channels.specs.Channels.{Content}
use Rattle.gr_code.specs.Goroutines.{CodeGoroutine}
use Rattle.gr_schedules.specs.Keys.{goroutine_entry_code, channel_entry_code}
use Rattle.gr_explore.specs.declared.pages.Page.{Page}
use Rattle.gr_explore.specs.declared.pages.Pages.{Pages}

-- what a listing has of a goroutine and of a channel, after the mark that it goes on; nothing where none has the name
abbrev pub goroutine_page : List ℕ → Option CodeGoroutine → List ℕ
goroutine_page n None = []
goroutine_page n (Some g) = 1 ∷ goroutine_entry_code (n, Some g)

abbrev pub channel_page : ChName → Option Content → List ℕ
channel_page c None = []
channel_page c (Some x) = 1 ∷ channel_entry_code (c, Some x)

module _ {N : Type 0} where
  abbrev pub names_of : List (Page N) → List N
  names_of pages = map (λ (page : Page N). page.name) pages

  -- all pages, one after the other
  abbrev pub pages_code : List (Page N) → List ℕ
  pages_code [] = []
  pages_code (page ∷ pages) = page.bytes.items ++ pages_code pages

  module _ (equal : N → N → Bool) where
    abbrev pub has_name : N → List N → Bool
    has_name n names = list_any (λ m. equal m n) names

    -- the names with one more, unless it is there; and with several
    abbrev pub with_name : N → List N → List N
    with_name n names = if has_name n names then names else names ++ n ∷ []

    abbrev pub with_names : List N → List N → List N
    with_names [] names = names
    with_names (n ∷ ns) names = with_names ns (with_name n names)

    -- the bytes of each page are right, unless what has its name has changed
    abbrev pub AreRight : (N → List ℕ → Type 0) → List N → List (Page N) → Type 0
    AreRight right changed [] = Unit {0}
    AreRight right changed (page ∷ pages) = (has_name page.name changed ≡ false → right page.name page.bytes.items) × AreRight right changed pages

module _ {N : Type 0} (code : N → List ℕ) where
  -- each page has the code of its name
  abbrev pub AreCodes : List (Page N) → Type 0
  AreCodes [] = Unit {0}
  AreCodes (page ∷ pages) = (page.bytes.items ≡ code page.name) × AreCodes pages

  -- pages with more of them behind
  abbrev pub IsGrown : (old new : List (Page N)) → Type 0
  IsGrown [] new = AreCodes new
  IsGrown (page ∷ pages) [] = ⊥
  IsGrown (page ∷ pages) (other ∷ others) = (other ≡ page) × IsGrown pages others

module _ {N : Type 0} (equal : N → N → Bool) (code : N → List ℕ) (changed : List N) where
  -- a page is as it was, unless what has its name has changed; or it has the code
  pub record IsRenewed (old new : Page N) : Type 0 where
    pub name : new.name ≡ old.name
    pub bytes : ((has_name equal old.name changed ≡ false) × (new.bytes.items ≡ old.bytes.items)) ⊎ (new.bytes.items ≡ code old.name)

  abbrev pub AreRenewed : (old new : List (Page N)) → Type 0
  AreRenewed [] [] = Unit {0}
  AreRenewed [] (other ∷ others) = ⊥
  AreRenewed (page ∷ pages) [] = ⊥
  AreRenewed (page ∷ pages) (other ∷ others) = IsRenewed page other × AreRenewed pages others

  -- renewed, with more of them behind
  pub record AreUpdated (old new : List (Page N)) : Type 0 where
    pub renewed : List (Page N)
    pub are : AreRenewed old renewed
    pub grown : IsGrown code renewed new

-- these bytes are a code of what is seen under a name
pub record IsCodeOfSeen {N X V : Type 0} (code : N → Option X → List ℕ) (view : Option X → V) (seen : V) (n : N) (bytes : List ℕ) : Type 0 where
  pub content : Option X
  pub bytes_are : bytes ≡ code n content
  pub is_seen : view content ≡ seen

-- The pages are of what is seen under each name, but for what has changed. Nothing is seen where there is no page.
pub record PagesFit {N X V : Type 0} (equal : N → N → Bool) (code : N → Option X → List ℕ) (view : Option X → V) (seen : N → V) (pages : Pages N) : Type 0 where
  pub right : AreRight equal (λ n bytes. IsCodeOfSeen code view (seen n) n bytes) pages.changed.items pages.written.items
  pub others : (n : N) → has_name equal n pages.changed.items ≡ false → has_name equal n (names_of pages.written.items) ≡ false → view None ≡ seen n
