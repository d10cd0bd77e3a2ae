-- From the stream of a desk to the end of its session.
use Rattle.std.proofs.Common.{◌≡◌, [], ◌∷◌, refl, sym, subst, ap, inl, inr, Ok, Err}
use Rattle.std.specs.Prelude.{IfErr, OnOk}
use Rattle.std.specs.Io.KnownBytes.{Keeps}
use Rattle.std.specs.declared.result.Result.{Result}
use Rattle.gr_program.specs.Programs.{Program}
use Rattle.gr_share.specs.Calls.{Asker}
use Rattle.gr_serve.specs.declared.stream.ServeFault.{ServeFault}
use Rattle.gr_serve.specs.declared.stream.ServeFault.TheVariants.{Read, Write, Memory}
use Rattle.gr_serve.specs.declared.debug.DebugFault.{DebugFault}
use Rattle.gr_serve.specs.declared.debug.DebugFault.TheVariants.{Source, Open, Serve, Threads}
use Rattle.gr_lines.specs.Devices.{Device, Change, NeverFails}
use Rattle.gr_serve.specs.Debug.{Opened, SourceLeft, BlamesDevice}
use Rattle.rewind.specs.Beside.{LeftSettled, Settled, StreamLeft, BlamesStream, Streamed, EndedWith, BesideEnds, DebuggedBeside, BesideLeft, IsStill}
use Rattle.gr_lines.proofs.Known.{Keeps-refl}

abbrev pub still : Device → Change
still device = record { old = device; new = device }

-- out of memory, or without the threads, before the stream: nothing was done
pub no_memory : (program : Program) (reader writer : Device) → StreamLeft program (Serve Memory) (still reader) (still writer) × BlamesStream (Serve Memory) (still reader) (still writer)
no_memory program reader writer = (inl (Keeps-refl reader.bytes, Keeps-refl writer.bytes), (refl, refl))

still_keeps : (device : Change) → IsStill device → Keeps device.old.bytes device.new.bytes
still_keeps device e = subst (λ d. Keeps device.old.bytes d.bytes) (sym e) (Keeps-refl device.old.bytes)

pub no_threads : (program : Program) (reader writer : Change) → IsStill reader → IsStill writer → StreamLeft program Threads reader writer × BlamesStream Threads reader writer
no_threads program reader writer r w =
    ((still_keeps reader r, still_keeps writer w), (ap (λ (d : Device). d.failures) r, ap (λ (d : Device). d.failures) w))

-- the stream's fault is the session's
left_beside : (program : Program) (fault : ServeFault) (reader writer : Change) → LeftSettled program fault reader writer → StreamLeft program (Serve fault) reader writer
left_beside program Read reader writer h = h
left_beside program Write reader writer h = h
left_beside program Memory reader writer h = inr h

pub ends : {A E : Type 0} (program : Program) (served : Result E ServeFault) (result : Result A DebugFault) (old desk : Asker) (reader writer : Change)
    → old.calls ≡ [] → Streamed old desk served reader writer → EndedWith served (Settled program (desk ∷ [])) result → BesideEnds program result reader writer
ends program (Ok v) (Ok u) old desk reader writer fresh stream told =
    (record { stream = record { old = old; fresh = fresh; desk = desk; served = stream.0 }; settled = told.0 }, stream.1)
ends program (Ok v) (Err fault) old desk reader writer fresh stream told = absurd told.1
ends program (Err why) (Ok u) old desk reader writer fresh stream told = absurd told.1.0
ends program (Err why) (Err fault) old desk reader writer fresh stream told =
    let left : LeftSettled program why reader writer =
    record { stream = record { old = old; fresh = fresh; desk = desk; left = stream.0 }; settled = told.0 } in
    subst (λ f. StreamLeft program f reader writer × BlamesStream f reader writer) (sym told.1.1) (left_beside program why reader writer left, stream.1)

-- the fault of a served session is the session's or the source's
pub served : {A : Type 0} (program : Program) (result : Result A DebugFault) (source reader writer : Change)
    → Opened source.old.bytes source.new.bytes program → BesideEnds program result reader writer → OnOk result (DebuggedBeside source reader writer)
served program (Ok v) source reader writer opened h = record { program = program; opened = opened; settled = h.0 }
served program (Err fault) source reader writer opened h = tt

stream_left : (program : Program) (fault : DebugFault) (source reader writer : Change) → Opened source.old.bytes source.new.bytes program
    → StreamLeft program fault reader writer → BesideLeft fault source reader writer
stream_left program Source source reader writer o h = absurd h
stream_left program (Open error) source reader writer o h = absurd h
stream_left program (Serve Read) source reader writer o h = record { program = program; opened = o; left = h }
stream_left program (Serve Write) source reader writer o h = record { program = program; opened = o; left = h }
stream_left program (Serve Memory) source reader writer o h = inr (record { program = program; opened = o; left = h })
stream_left program Threads source reader writer o h = record { program = program; opened = o; left = h }

stream_blamed : (fault : DebugFault) (source reader writer : Change) → NeverFails source → BlamesStream fault reader writer → BlamesDevice fault source reader writer
stream_blamed Source source reader writer n b = absurd b
stream_blamed (Open error) source reader writer n b = absurd b
stream_blamed (Serve fault) source reader writer n b = (n, b)
stream_blamed Threads source reader writer n b = (n, b)

pub left : {A : Type 0} (program : Program) (result : Result A DebugFault) (source reader writer : Change)
    → Opened source.old.bytes source.new.bytes program → BesideEnds program result reader writer
    → IfErr result (λ fault. BesideLeft fault source reader writer)
left program (Ok v) source reader writer opened h = tt
left program (Err fault) source reader writer opened h = stream_left program fault source reader writer opened h.0

pub blamed : {A : Type 0} (program : Program) (result : Result A DebugFault) (source reader writer : Change)
    → NeverFails source → BesideEnds program result reader writer → IfErr result (λ fault. BlamesDevice fault source reader writer)
blamed program (Ok v) source reader writer never h = tt
blamed program (Err fault) source reader writer never h = stream_blamed fault source reader writer never h.1

-- without a session nothing was done
pub unshared : (fault : DebugFault) (source : Change) (reader writer : Device) → SourceLeft fault source → BesideLeft fault source (still reader) (still writer)
unshared Source source reader writer h = (h, (Keeps-refl reader.bytes, Keeps-refl writer.bytes))
unshared (Open error) source reader writer h = (h, (Keeps-refl reader.bytes, Keeps-refl writer.bytes))
unshared (Serve Read) source reader writer h = absurd h
unshared (Serve Write) source reader writer h = absurd h
unshared (Serve Memory) source reader writer h = inl (h, (Keeps-refl reader.bytes, Keeps-refl writer.bytes))
unshared Threads source reader writer h = absurd h
