use Rattle.std.proofs.Common.{◌≡◌, ◌++◌, List, map, drop}
use Rattle.std.specs.List.{All}
use Rattle.doc_items.specs.Maps.{Key}
use Rattle.session_core.specs.News.{messages_of}
use Rattle.wavelet_op.specs.Deltas.{DeltaOf}
use Rattle.shard_marks.specs.Frames.{frames_of}
use Rattle.session_hub.specs.Texts.{AreWritten, IsPlacedIn}
use Rattle.session_hub.proofs.frames.frames.Given as goal

abbrev pub invariant-loop-item : goal.invariant-loop-item
invariant-loop-item l = record {
  made : (f : Key → List DeltaOf) → AreWritten f l.initial.texts.items → All (IsPlacedIn f) l.news → map (λ f. f.items) l.made.items ++ frames_of (messages_of (drop l.item-index l.news)) ≡ frames_of (messages_of l.news);
  texts : (f : Key → List DeltaOf) → AreWritten f l.initial.texts.items → All (IsPlacedIn f) l.news → AreWritten f l.texts.items;
}
