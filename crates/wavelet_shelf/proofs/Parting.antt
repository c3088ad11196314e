-- Shelves that are divided.
--     set_each, set_map          another value at a place of a list
--     found_in, hosted_in, all_in     what is found, what is hosted and what is so of the entries of a shard
--     put_in_part, not_in_part   an entry before the others of its shard, and of another one
--     absent_before              its name isn't among those after it
--     IsSpreading                the containers that were taken are in the parts of their shards
--     is_part                    a part with those of its shard
--     alike_as, alike_another    a folder is like itself, and another of it is like it
--     none_more, with_last       counts of shelves, where one more comes; sums_set, where one is another
use Rattle.std.proofs.Common.{◌≡◌, ◌≢◌, inl, ℕ, zero, suc, ◌+◌, ◌≤◌, ◌<◌, Bool, true, false, cond, List, [], ◌∷◌, ◌++◌, length, insert, take, drop, map, filter, set, slice_get, slice_index_or, slice_set, is_some, Option, Some, None, IsSome, IfSome, IsTrue, refl, sym, ap, subst, ◌∙◌, true≢false, arith, append-nil}
use Rattle.std.specs.Cmp.Lexicographic.{bytes_decides}
use Rattle.std.specs.List.{AllByRecursion}
use Rattle.std.specs.Map.{lookup, keys_of}
use Rattle.std.specs.Option.{option_map}
use Rattle.std.proofs.lemmas.Bool.{eq-eqb, ne_eqb}
use Rattle.std.proofs.lemmas.Cmp.{nat_list_cmp_total}
use Rattle.std.proofs.lemmas.List.{append_assoc, length-set}
use Rattle.std.proofs.lemmas.Nat.{mod_below}
use Rattle.std.proofs.lemmas.Option.{slice_get_read}
use Rattle.doc_items.specs.Maps.{Key, same_text}
use Rattle.wave_hash.specs.Chain.{zero_hash_of}
use Rattle.wavelet_op.specs.Deltas.{DeltaOf}
use Rattle.delta_history.specs.Copying.{AscendFrom, AreAscending}
use Rattle.disk_model.specs.Disk.{DiskView}
use Rattle.disk_model.specs.declared.disk.Disk as disk_of
use Rattle.wave_outside.specs.Folders.{IsSame, IsReadAlike, FolderLog}
use Rattle.wave_outside.specs.declared.folder.Folder as folder_of
use Rattle.wavelet_container.specs.Containers.{history_of, IsHeld}
use Rattle.wavelet_shelf.specs.Entries.{found, hosting, history_at, shown_by, faults_of, faults_in, IsPlace, IsPut, IsNamed, AreInOrder, FitsFolder, FitFolder, IsSafe}
use Rattle.wavelet_shelf.specs.FileNames.{file_name_of, first_byte, shard_of}
use Rattle.wavelet_shelf.specs.Hosting.{Hosted}
use Rattle.wavelet_shelf.specs.Parts.{is_in, entries_in, fault_sums, IsPart, IsAlike, AreAlike, IsLike, IsAddedTo, ArePartsOf}
use Rattle.wavelet_shelf.specs.Shelves.{entries_of, in_folder, container_in, folder_faults, fault_sum}
use Rattle.wavelet_shelf.specs.declared.filed.Filed.{Filed}
use Rattle.wavelet_shelf.specs.declared.shelf.Shelf.{Shelf}
use Rattle.wavelet_shelf.proofs.Names.{below_none, lower, any}
use Rattle.wavelet_shelf.proofs.Placing.{found_above, all_last, all_front, length_keys}
use Rattle.wavelet_shelf.proofs.Shelving.{deltas_of, count_of, faults_total}
use Rattle.wavelet_shelf.proofs.Still.{still_as}
use Rattle.wavelet_shelf.proofs.Sums.{sum_put}

-- ---- lists

if_some : {S : Type 0} (P Q : S → Type 0) (o : Option S) → ((s : S) → P s → Q s) → IfSome o P → IfSome o Q
if_some P Q None then p = tt
if_some P Q (Some s) then p = then s p

pub set_each : {S : Type 0} (P Q : ℕ → S → Type 0) (xs : List S) (p : ℕ) (y : S) → ((i : ℕ) → IfSome (slice_get xs i) (P i)) → ((i : ℕ) (s : S) → i ≢ p → P i s → Q i s) → Q p y → (i : ℕ) → IfSome (slice_get (set xs p y) i) (Q i)
set_each P Q [] p y each other here i = tt
set_each P Q (x ∷ xs) zero y each other here zero = here
set_each P Q (x ∷ xs) zero y each other here (suc i) = if_some (P (suc i)) (Q (suc i)) (slice_get xs i) (λ s. other (suc i) s (λ e. absurd (omega (arith, e)))) (each (suc i))
set_each P Q (x ∷ xs) (suc p) y each other here zero = other zero x (λ e. absurd (omega (arith, e))) (each zero)
set_each P Q (x ∷ xs) (suc p) y each other here (suc i) = set_each (λ k. P (suc k)) (λ k. Q (suc k)) xs p y (λ k. each (suc k)) (λ k s apart. other (suc k) s (λ e. apart (omega (arith, e)))) here i

no_value : {X T : Type 0} {x : X} → None ≡ Some x → T
no_value e = absurd (cc)

same_Some : {X : Type 0} {x y : X} → Some x ≡ Some y → x ≡ y
same_Some e = cc

pub set_map : {S X : Type 0} (f : S → X) (xs : List S) (p : ℕ) (x y : S) → slice_get xs p ≡ Some x → f y ≡ f x → map f (set xs p y) ≡ map f xs
set_map f [] p x y is same = refl
set_map f (z ∷ xs) zero x y is same = ap (λ w. w ∷ map f xs) (same ∙ ap f (sym (same_Some is)))
set_map f (z ∷ xs) (suc p) x y is same = ap (λ l. f z ∷ l) (set_map f xs p x y is same)

-- what is so of each is so of those of another list with the same parts
pub all_same : {S X : Type 0} (f : S → X) (P : X → Type 0) (xs ys : List S) → map f ys ≡ map f xs → AllByRecursion (λ s. P (f s)) xs → (i : ℕ) → IfSome (slice_get ys i) (λ s. P (f s))
all_same f P xs [] same all i = tt
all_same f P [] (y ∷ ys) same all i = absurd (cc)
all_same f P (x ∷ xs) (y ∷ ys) same all zero = subst P (sym (head_same same)) all.0
  where
    head_same : f y ∷ map f ys ≡ f x ∷ map f xs → f y ≡ f x
    head_same e = cc
all_same f P (x ∷ xs) (y ∷ ys) same all (suc i) = all_same f P xs ys (tail_same same) all.1 i
  where
    tail_same : f y ∷ map f ys ≡ f x ∷ map f xs → map f ys ≡ map f xs
    tail_same e = cc

pub each_of : {S : Type 0} (P : S → Type 0) (xs : List S) → AllByRecursion P xs → (i : ℕ) → IfSome (slice_get xs i) P
each_of P [] all i = tt
each_of P (x ∷ xs) all zero = all.0
each_of P (x ∷ xs) all (suc i) = each_of P xs all.1 i

pub all_push : {S : Type 0} (P : S → Type 0) (xs : List S) (x : S) → AllByRecursion P xs → P x → AllByRecursion P (xs ++ x ∷ [])
all_push P [] x all one = (one, tt)
all_push P (y ∷ xs) x all one = (all.0, all_push P xs x all.1 one)

pub at_place : {S : Type 0} (P : S → Type 0) (o : Option S) (s : S) → o ≡ Some s → IfSome o P → P s
at_place P None s is p = no_value is
at_place P (Some t) s is p = subst P (same_Some is) p

-- a list that was lent whole
pub taken_back : {S : Type 0} (n : ℕ) (new items : List S) → n ≡ length items → length new ≡ length items → take n (new ++ drop (length new) items) ≡ new
taken_back zero [] [] e f = refl
taken_back (suc n) [] [] e f = refl
taken_back n [] (y ∷ items) e f = absurd (omega (arith, f))
taken_back n (x ∷ new) [] e f = absurd (omega (arith, f))
taken_back zero (x ∷ new) (y ∷ items) e f = absurd (omega (arith, e))
taken_back (suc n) (x ∷ new) (y ∷ items) e f = ap (λ l. x ∷ l) (taken_back n new items (omega (arith, e)) (omega (arith, f)))

-- ---- entries of a shard

not_own : (i : ℕ) (n : Key) → i ≢ shard_of n → is_in i n ≡ false
not_own i n apart = ne_eqb (shard_of n) i (λ e. apart (sym e))

own_shard : (n : Key) → is_in (shard_of n) n ≡ true
own_shard n = eq-eqb (shard_of n) (shard_of n) refl

module _ {V : Type 0} where
  in_from : (i : ℕ) (k : Key) (es : List (Key × V)) → AscendFrom k (keys_of es) → AscendFrom k (keys_of (entries_in i es))
  in_from i k [] a = tt
  in_from i k (e ∷ es) a = go (is_in i e.0) (in_from i e.0 es a.1)
    where
      go : (t : Bool) → AscendFrom e.0 (keys_of (entries_in i es)) → AscendFrom k (keys_of (cond t (e ∷ entries_in i es) (entries_in i es)))
      go true rest = (a.0, rest)
      go false rest = lower k e.0 (keys_of (entries_in i es)) a.0 rest

  pub found_in : (i : ℕ) (es : List (Key × V)) (n : Key) → lookup (same_text n) (entries_in i es) ≡ cond (is_in i n) (lookup (same_text n) es) None
  found_in i [] n = go (is_in i n)
    where
      go : (t : Bool) → ◌≡◌ {A = Option V} None (cond t None None)
      go true = refl
      go false = refl
  found_in i (e ∷ es) n = go (is_in i e.0) refl (same_text n e.0) refl (found_in i es n)
    where
      go : (t : Bool) → is_in i e.0 ≡ t → (s : Bool) → same_text n e.0 ≡ s → lookup (same_text n) (entries_in i es) ≡ cond (is_in i n) (lookup (same_text n) es) None
          → lookup (same_text n) (cond t (e ∷ entries_in i es) (entries_in i es)) ≡ cond (is_in i n) (cond s (Some e.1) (lookup (same_text n) es)) None
      go true p true s rest = ap (λ b. cond b (Some e.1) (lookup (same_text n) (entries_in i es))) s ∙ sym (ap (λ b. cond b (Some e.1) None) (ap (is_in i) ((bytes_decides n e.0).0 s) ∙ p))
      go true p false s rest = ap (λ b. cond b (Some e.1) (lookup (same_text n) (entries_in i es))) s ∙ rest
      go false p true s rest =
          let out : is_in i n ≡ false = ap (is_in i) ((bytes_decides n e.0).0 s) ∙ p in
          rest ∙ ap (λ b. cond b (lookup (same_text n) es) None) out ∙ sym (ap (λ b. cond b (Some e.1) None) out)
      go false p false s rest = rest

  pub all_in : (P : Key × V → Type 0) (i : ℕ) (es : List (Key × V)) → AllByRecursion P es → AllByRecursion P (entries_in i es)
  all_in P i [] all = tt
  all_in P i (e ∷ es) all = go (is_in i e.0) (all_in P i es all.1)
    where
      go : (t : Bool) → AllByRecursion P (entries_in i es) → AllByRecursion P (cond t (e ∷ entries_in i es) (entries_in i es))
      go true rest = (all.0, rest)
      go false rest = rest

  pub ascend_behind : (es : List (Key × V)) (e : Key × V) (done : List (Key × V)) → AreAscending (keys_of (es ++ e ∷ done)) → AscendFrom e.0 (keys_of done)
  ascend_behind [] e done a = a
  ascend_behind (x ∷ es) e done a = ascend_behind es e done (any x.0 (keys_of (es ++ e ∷ done)) a)

-- ---- one more entry

first_place : (n : Key) (keys : List Key) (at : ℕ) → AscendFrom n keys → IsPlace n keys at → at ≡ 0
first_place n keys zero a p = refl
first_place n [] (suc i) a p = absurd (let le = p.inside in omega (arith, le))
first_place n (k ∷ keys) (suc i) a p = below_none n (nat_list_cmp_total.trans n k n a.0 (p.below 0 n (omega arith) (omega arith)))

module _ {D : Type 0} {disk : disk_of.Ghosts D} where
  pub absent_before : (n : Key) (es : List (Key × Filed D disk)) → AscendFrom n (keys_of es) → is_some (lookup (same_text n) es) ≡ false
  absent_before n es a = go (lookup (same_text n) es) refl
    where
      go : (o : Option (Filed D disk)) → lookup (same_text n) es ≡ o → is_some (lookup (same_text n) es) ≡ false
      go None is = ap is_some is
      go (Some v) is = below_none n (found_above deltas_of n n es v a is)

  pub put_in_part : (i : ℕ) (n : Key) (filed : Filed D disk) (done es es' : List (Key × Filed D disk)) → es ≡ entries_in i done → AscendFrom n (keys_of done) → is_in i n ≡ true → IsPut n filed es es' → es' ≡ entries_in i ((n, filed) ∷ done)
  put_in_part i n filed done es es' is a own put =
      put.is
      ∙ ap (λ k. insert es k (n, filed)) (first_place n (keys_of es) put.at (subst (λ l. AscendFrom n (keys_of l)) (sym is) (in_from i n done a)) put.place)
      ∙ ap (λ l. (n, filed) ∷ l) is
      ∙ sym (ap (λ b. cond b ((n, filed) ∷ entries_in i done) (entries_in i done)) own)

  pub not_in_part : (i : ℕ) (n : Key) (filed : Filed D disk) (done es : List (Key × Filed D disk)) → es ≡ entries_in i done → is_in i n ≡ false → es ≡ entries_in i ((n, filed) ∷ done)
  not_in_part i n filed done es is out = is ∙ sym (ap (λ b. cond b ((n, filed) ∷ entries_in i done) (entries_in i done)) out)

  pub named_last : (es es' : List (Key × Filed D disk)) (n : Key) (filed : Filed D disk) → es ≡ es' ++ (n, filed) ∷ [] → AreInOrder es → IsNamed (n, filed)
  named_last es es' n filed is order = all_last IsNamed es' (n, filed) (subst (AllByRecursion IsNamed) is order.1)

  -- ---- what is hosted

  pub hosted_in : (i : ℕ) (es : List (Key × Filed D disk)) → hosting (entries_in i es) ≡ filter (λ (h : Hosted). is_in i h.name) (hosting es)
  hosted_in i [] = refl
  hosted_in i (e ∷ es) = apart (is_in i e.0) ∙ go (is_in i e.0) refl (history_of e.1.container).deltas (hosted_in i es)
    where
      rest : List (Key × Filed D disk)
      rest = entries_in i es

      test : Hosted → Bool
      test h = is_in i h.name

      apart : (t : Bool) → hosting (cond t (e ∷ rest) rest) ≡ cond t (shown_by (history_at e) (history_of e.1.container).deltas (hosting rest)) (hosting rest)
      apart true = refl
      apart false = refl

      go : (t : Bool) → is_in i e.0 ≡ t → (ds : List DeltaOf) → hosting rest ≡ filter (λ (h : Hosted). is_in i h.name) (hosting es)
          → cond t (shown_by (history_at e) ds (hosting rest)) (hosting rest) ≡ filter (λ (h : Hosted). is_in i h.name) (shown_by (history_at e) ds (hosting es))
      go true p [] same = same
      go false p [] same = same
      go true p (d ∷ ds) same = ap (λ hs. history_at e ∷ hs) same ∙ sym (ap (λ b. cond b (history_at e ∷ filter (λ (h : Hosted). is_in i h.name) (hosting es)) (filter (λ (h : Hosted). is_in i h.name) (hosting es))) p)
      go false p (d ∷ ds) same = same ∙ sym (ap (λ b. cond b (history_at e ∷ filter (λ (h : Hosted). is_in i h.name) (hosting es)) (filter (λ (h : Hosted). is_in i h.name) (hosting es))) p)

-- ---- shelves

some_of : {X : Type 0} (t : Bool) (o : Option X) → IsSome (cond t o None) → IsSome o
some_of true o some = some
some_of false o some = absurd (true≢false (sym some))

map_cond : {X Y : Type 0} (f : X → Y) (t : Bool) (o : Option X) → option_map f (cond t o None) ≡ cond t (option_map f o) None
map_cond f true o = refl
map_cond f false o = refl

alike_itself : {K : Type 0} (view : K → DiskView) (o : Option K) → IsReadAlike view o o
alike_itself view None = tt
alike_itself view (Some f) = record { seen = refl; images = λ c left. inl left }

module _ {F D : Type 0} (folder : folder_of.Ghosts F D) (disk : disk_of.Ghosts D) where
  pub alike_as : (o : Option F) → AreAlike folder disk o o
  alike_as None = tt
  alike_as (Some f) = record { room = λ m. refl; still = still_as folder f; files = λ told m. alike_itself disk.view (folder.files f m) }

  pub alike_another : (f g : F) → IsSame (folder.room f) (folder.room g) → (IsTrue folder.tells → folder.log g ≡ folder.log f) → (IsTrue folder.tells → (m : List ℕ) → IsReadAlike disk.view (folder.files f m) (folder.files g m)) → IsAlike folder disk f g
  alike_another f g room log files = record { room = room; still = λ told. ap (λ (l : FolderLog). l.entries) (log told); files = files }

  fits_like : (o p : Option F) (es : List (Key × Filed D disk)) → AreAlike folder disk o p → FitFolder folder.room o es → FitFolder folder.room p es
  fits_like None None es same fit = fit
  fits_like None (Some g) es same fit = absurd same
  fits_like (Some f) None es same fit = absurd same
  fits_like (Some f) (Some g) [] same fit = tt
  fits_like (Some f) (Some g) (e ∷ es) same fit = (same.room (file_name_of e.0) ∙ fit.0, fits_like (Some f) (Some g) es same fit.1)

  there_like : (o p : Option F) → AreAlike folder disk o p → IsSome o → IsSome p
  there_like None None same some = some
  there_like None (Some g) same some = absurd same
  there_like (Some f) None same some = absurd same
  there_like (Some f) (Some g) same some = refl

both : {S : Type 0} (P Q : S → Type 0) (o : Option S) → IfSome o P → IfSome o Q → IfSome o (λ s. P s × Q s)
both P Q None p q = tt
both P Q (Some s) p q = (p, q)

module _ {D : Type 0} {disk : disk_of.Ghosts D} where
  put_counted : (n : Key) (filed : Filed D disk) (es es' : List (Key × Filed D disk)) → IsPut n filed es es' → faults_in es' ≡ faults_in es + faults_of filed.container
  put_counted n filed es es' put =
      ap faults_in put.is ∙ faults_total (insert es put.at (n, filed)) ∙ sum_put count_of es put.at (n, filed) (subst (λ k. put.at ≤ k) (length_keys es) put.place.inside)
      ∙ ap (λ m. m + faults_of filed.container) (sym (faults_total es))

module _ {F D : Type 0} {folder : folder_of.Ghosts F D} {disk : disk_of.Ghosts D} where
  abbrev pub HasEntries : List (Key × Filed D disk) → List (Key × Filed D disk) → ℕ → Shelf F D folder disk → Type 0
  HasEntries done es i s = (entries_of s ≡ entries_in i done) × FitFolder folder.room (in_folder s) es

  pub record IsSpreading (all es : List (Key × Filed D disk)) (shelves now : List (Shelf F D folder disk)) : Type 0 where
    pub sixteen : length now ≡ 16
    pub done : List (Key × Filed D disk)
    pub split : all ≡ es ++ done
    pub each : (i : ℕ) → IfSome (slice_get now i) (HasEntries done es i)
    pub folders : map in_folder now ≡ map in_folder shelves
    pub counted : fault_sums now ≡ fault_sums shelves + faults_in done

  -- ---- counts

  pub none_more : (shelves : List (Shelf F D folder disk)) (s : Shelf F D folder disk) → fault_sums shelves ≡ 0 → fault_sum s ≡ 0 → fault_sums (shelves ++ s ∷ []) ≡ 0
  none_more [] s none here = omega (arith, here)
  none_more (x ∷ shelves) s none here = let rest = none_more shelves s (omega (arith, none)) here in omega (arith, none, rest)

  pub with_last : (shelves : List (Shelf F D folder disk)) (s : Shelf F D folder disk) (n : ℕ) → fault_sums shelves ≡ 0 → fault_sum s ≡ n → fault_sums (shelves ++ s ∷ []) ≡ n
  with_last [] s n none here = omega (arith, here)
  with_last (x ∷ shelves) s n none here = let rest = with_last shelves s n (omega (arith, none)) here in omega (arith, none, rest)

  sums_set : (shelves : List (Shelf F D folder disk)) (p : ℕ) (old new : Shelf F D folder disk) → slice_get shelves p ≡ Some old → fault_sums (set shelves p new) + fault_sum old ≡ fault_sums shelves + fault_sum new
  sums_set [] p old new was = no_value was
  sums_set (x ∷ shelves) zero old new was = let same : fault_sum x ≡ fault_sum old = ap fault_sum (same_Some was) in omega (arith, same)
  sums_set (x ∷ shelves) (suc p) old new was = let rest = sums_set shelves p old new was in omega (arith, rest)

  added_counted : (n : Key) (filed : Filed D disk) (shelves after : List (Shelf F D folder disk)) → IsAddedTo n filed shelves after → fault_sums after ≡ fault_sums shelves + faults_of filed.container
  added_counted n filed shelves after x =
      let one = sums_set shelves (shard_of n) x.old x.new x.was in
      let two = put_counted n filed (entries_of x.old) (entries_of x.new) x.put in
      let same = ap (folder_faults folder.faults) x.folder_stays in
      let is : fault_sums after ≡ fault_sums (set shelves (shard_of n) x.new) = ap fault_sums x.is in
      omega (arith, one, two, same, is)

  pub start_spreading : (all : List (Key × Filed D disk)) (shelves : List (Shelf F D folder disk)) → length shelves ≡ 16 → AllByRecursion (λ s. entries_of s ≡ []) shelves → AllByRecursion (λ s. FitFolder folder.room (in_folder s) all) shelves → IsSpreading all all shelves shelves
  start_spreading all shelves sixteen none fit = record {
    sixteen = sixteen;
    done = [];
    split = sym (append-nil all);
    each = λ i. both (λ s. entries_of s ≡ []) (λ s. FitFolder folder.room (in_folder s) all) (slice_get shelves i) (each_of (λ s. entries_of s ≡ []) shelves none i) (each_of (λ s. FitFolder folder.room (in_folder s) all) shelves fit i);
    folders = refl;
    counted = omega arith;
  }

  module _ (all es es' : List (Key × Filed D disk)) (shelves now : List (Shelf F D folder disk)) (n : Key) (filed : Filed D disk) (is : es ≡ es' ++ (n, filed) ∷ []) (a : AreAscending (keys_of all)) (p : IsSpreading all es shelves now) where
    split_more : all ≡ es' ++ (n, filed) ∷ p.done
    split_more = p.split ∙ ap (λ l. l ++ p.done) is ∙ append_assoc es' ((n, filed) ∷ []) p.done

    behind : AscendFrom n (keys_of p.done)
    behind = ascend_behind es' (n, filed) p.done (subst (λ l. AreAscending (keys_of l)) split_more a)

    pub next_absent : IfSome (slice_get now (shard_of n)) (λ s. is_some (lookup (same_text n) (entries_of s)) ≡ false)
    next_absent = if_some (HasEntries p.done es (shard_of n)) (λ s. is_some (lookup (same_text n) (entries_of s)) ≡ false) (slice_get now (shard_of n))
        (λ s has. subst (λ l. is_some (lookup (same_text n) l) ≡ false) (sym has.0) (absent_before n (entries_in (shard_of n) p.done) (in_from (shard_of n) n p.done behind)))
        (p.each (shard_of n))

    pub next_fits : IfSome (slice_get now (shard_of n)) (λ s. FitsFolder folder.room (in_folder s) (n, filed))
    next_fits = if_some (HasEntries p.done es (shard_of n)) (λ s. FitsFolder folder.room (in_folder s) (n, filed)) (slice_get now (shard_of n))
        (λ s has. all_last (λ e. FitsFolder folder.room (in_folder s) e) es' (n, filed) (subst (FitFolder folder.room (in_folder s)) is has.1))
        (p.each (shard_of n))

    front_fits : (o : Option F) → FitFolder folder.room o es → FitFolder folder.room o es'
    front_fits o fit = all_front (λ e. FitsFolder folder.room o e) es' (n, filed) (subst (FitFolder folder.room o) is fit)

    pub spreading : (after : List (Shelf F D folder disk)) → IsAddedTo n filed now after → IsSpreading all es' shelves after
    spreading after x =
        let more = added_counted n filed now after x in
        let before = p.counted in
        let old = at_place (HasEntries p.done es (shard_of n)) (slice_get now (shard_of n)) x.old x.was (p.each (shard_of n)) in
        record {
          sixteen = ap length x.is ∙ length-set now (shard_of n) x.new ∙ p.sixteen;
          done = (n, filed) ∷ p.done;
          split = split_more;
          each = λ i. subst (λ l. IfSome (slice_get l i) (HasEntries ((n, filed) ∷ p.done) es' i)) (sym x.is) (set_each (HasEntries p.done es) (HasEntries ((n, filed) ∷ p.done) es') now (shard_of n) x.new p.each
              (λ k s apart has. (not_in_part k n filed p.done (entries_of s) has.0 (not_own k n apart), front_fits (in_folder s) has.1))
              (put_in_part (shard_of n) n filed p.done (entries_of x.old) (entries_of x.new) old.0 behind (own_shard n) x.put, subst (λ o. FitFolder folder.room o es') (sym x.folder_stays) (front_fits (in_folder x.old) old.1))
              i);
          folders = ap (map in_folder) x.is ∙ set_map in_folder now (shard_of n) x.old x.new x.was x.folder_stays ∙ p.folders;
          counted = omega (arith, more, before);
        }

  pub added_to : (n : Key) (filed : Filed D disk) (shelves : List (Shelf F D folder disk)) (place : ℕ) (old new : Shelf F D folder disk) → length shelves ≡ 16 → place ≡ shard_of n → old ≡ slice_index_or shelves place old
      → IsPut n filed (entries_of (slice_index_or shelves place old)) (entries_of new) → in_folder new ≡ in_folder (slice_index_or shelves place old) → IsAddedTo n filed shelves (slice_set shelves place new)
  added_to n filed shelves place old new sixteen here is put same =
      let small : shard_of n < 16 = mod_below (first_byte (zero_hash_of n)) 16 (omega arith) in
      let within : place < length shelves = omega (arith, small, here, sixteen) in
      record {
        old = old;
        new = new;
        was = subst (λ i. slice_get shelves i ≡ Some old) here (slice_get_read shelves (length shelves) place old refl within is);
        put = subst (λ s. IsPut n filed (entries_of s) (entries_of new)) (sym is) put;
        folder_stays = same ∙ ap in_folder (sym is);
        is = ap (λ i. set shelves i new) here;
      }

  pub all_spread : (all es : List (Key × Filed D disk)) (shelves now : List (Shelf F D folder disk)) → es ≡ [] → IsSpreading all es shelves now → ArePartsOf all shelves now
  all_spread all es shelves now none p = record {
    each = λ i. if_some (HasEntries p.done es i) (λ s. entries_of s ≡ entries_in i all) (slice_get now i) (λ s has. has.0 ∙ ap (entries_in i) (sym (p.split ∙ ap (λ l. l ++ p.done) none))) (p.each i);
    folders = p.folders;
    counted = p.counted ∙ ap (λ l. fault_sums shelves + faults_in l) (sym (p.split ∙ ap (λ l. l ++ p.done) none));
  }

  -- ---- parts

  pub all_fit : (o : Option F) (es : List (Key × Filed D disk)) (shelves : List (Shelf F D folder disk)) → FitFolder folder.room o es → AllByRecursion (IsLike o) shelves → AllByRecursion (λ s. FitFolder folder.room (in_folder s) es) shelves
  all_fit o es [] fit like = tt
  all_fit o es (s ∷ shelves) fit like = (fits_like folder disk o (in_folder s) es like.0.like fit, all_fit o es shelves fit like.1)

  pub all_none : (o : Option F) (shelves : List (Shelf F D folder disk)) → AllByRecursion (IsLike o) shelves → AllByRecursion (λ s. entries_of s ≡ []) shelves
  all_none o [] like = tt
  all_none o (s ∷ shelves) like = (like.0.none, all_none o shelves like.1)

  all_alike : (o : Option F) (shelves : List (Shelf F D folder disk)) → AllByRecursion (IsLike o) shelves → AllByRecursion (λ s. AreAlike folder disk o (in_folder s)) shelves
  all_alike o [] like = tt
  all_alike o (s ∷ shelves) like = (like.0.like, all_alike o shelves like.1)

  is_part : (s p : Shelf F D folder disk) (i : ℕ) → entries_of p ≡ entries_in i (entries_of s) → AreAlike folder disk (in_folder s) (in_folder p) → IsPart s i p
  is_part s p i is like =
      let here : (n : Key) → container_in p n ≡ cond (is_in i n) (container_in s n) None = λ n. ap (λ l. found l n) is ∙ ap (λ o. option_map (λ (x : Filed D disk). x.container) o) (found_in i (entries_of s) n) ∙ map_cond (λ (x : Filed D disk). x.container) (is_in i n) (lookup (same_text n) (entries_of s)) in
      let was : (n : Key) → IsSome (container_in p n) → IsSome (container_in s n) = λ n some. some_of (is_in i n) (container_in s n) (subst (λ o. IsSome o) (here n) some) in
      record {
        containers = here;
        hosted = ap hosting is ∙ hosted_in i (entries_of s);
        folder_like = like;
        kept = λ k. record { told = k.told; filed = there_like folder disk (in_folder s) (in_folder p) like k.filed; held = subst (AllByRecursion (λ e. IsHeld e.1.container)) (sym is) (all_in (λ e. IsHeld e.1.container) i (entries_of s) k.held) };
        settled = λ safe. subst (AllByRecursion (λ e. IsSafe e.1.container)) (sym is) (all_in (λ e. IsSafe e.1.container) i (entries_of s) safe);
        apart = λ apart n m one two same. apart n m (was n one) (was m two) same;
      }

  pub are_parts : (s : Shelf F D folder disk) (shelves parts : List (Shelf F D folder disk)) → AllByRecursion (IsLike (in_folder s)) shelves → ArePartsOf (entries_of s) shelves parts → (i : ℕ) → IfSome (slice_get parts i) (IsPart s i)
  are_parts s shelves parts like x i =
      if_some (λ p. (entries_of p ≡ entries_in i (entries_of s)) × AreAlike folder disk (in_folder s) (in_folder p)) (IsPart s i) (slice_get parts i)
      (λ p has. is_part s p i has.0 has.1)
      (both (λ p. entries_of p ≡ entries_in i (entries_of s)) (λ p. AreAlike folder disk (in_folder s) (in_folder p)) (slice_get parts i) (x.each i) (all_same in_folder (AreAlike folder disk (in_folder s)) shelves parts x.folders (all_alike (in_folder s) shelves like) i))
