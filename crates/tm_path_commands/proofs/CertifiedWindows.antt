-- The certificate of windows, and of those that are ready after them.
use Rattle.std.proofs.Common.{◌≡◌, ◌⊎◌, inl, inr, ℕ, ◌+◌, ◌<◌, ◌∙◌, ◌++◌, refl, false, sym, ap, subst, arith, List, [], ◌∷◌, append_assoc, Bool, Option, Some, None, drop, drop-drop, length, take, slice_index_or}
use Rattle.std.proofs.lemmas.List.{append-nil, take_all, take_more}
use Rattle.tm_driver.specs.Writing.{Text, TookOut}
use Rattle.tm_driver.proofs.Writing.{took_out-more, took_out-none}
use Rattle.tm_config.specs.Configuration.{Configuration}
use Rattle.tm_conv.specs.Path.{steps_size}
use Rattle.tm_conv.specs.declared.rates.Rate.{Rate}
use Rattle.tm_conv.proofs.Paths.{steps_size-zero}
use Rattle.tm_conv.proofs.Sizes.{steps_size-add}
use Rattle.tm_viterbi.specs.Due.{Place, Closed, first_place}
use Rattle.tm_viterbi.specs.WindowBlock.{WindowBlock}
use Rattle.tm_viterbi.specs.declared.window_decoder.WindowShape.{WindowShape}
use Rattle.tm_windows.specs.Queue.{Queueing, octets_of, shape_of, step_of, window_size}
use Rattle.tm_windows.specs.Windows.{kept_of}
use Rattle.tm_inner.specs.Inner.{settings_of, soft_octets}
use Rattle.tm_inner.specs.InnerDecoding.{HasChosen, InnerDecoding, IsQueueOf, ready_in}
use Rattle.tm_inner.specs.InnerWindows.{shape_in}
use Rattle.tm_inner.specs.Receiving.{FirstAt}
use Rattle.tm_inner.proofs.DueBits.{soft-more}
use Rattle.tm_inner.proofs.Unfollowed.{first-unfollowed}
use Rattle.tm_cert_file.specs.Certificate.{AreCertified, IsCertificate, IsCertified}
use Rattle.tm_path_commands.specs.Certify.{TextAt}
use Rattle.tm_path_commands.specs.Certifying.{BeginEarly, GaveReady, GaveWindow, IsReadyText, starts_after}

pub starts-on : (start : Option ℕ) (first rest : List WindowBlock)
    → starts_after start (first ++ rest) ≡ starts_after (starts_after start first) rest
starts-on start [] rest = refl
starts-on start (x ∷ xs) rest = starts-on (Some x.end_state) xs rest

-- the windows after the first begin after their kept steps
pub certified-on : (rate : Rate) (invert : Bool) (start : Option ℕ) (t : ℕ) (octets : List ℕ)
    (first rest : List WindowBlock) (text more : List ℕ) → AreCertified rate invert start t octets first text
    → AreCertified rate invert (starts_after start first) (t + kept_of first)
    (drop (steps_size rate t (kept_of first)) octets) rest more
    → AreCertified rate invert start t octets (first ++ rest) (text ++ more)
certified-on rate invert start t octets [] rest text more one two =
    let same : t + 0 ≡ t = omega arith in
    subst (λ (l : List ℕ). AreCertified rate invert start t octets rest (l ++ more)) (sym one)
    (subst (λ (n : ℕ). AreCertified rate invert start n octets rest more) same
    (subst (λ (n : ℕ). AreCertified rate invert start (t + 0) (drop n octets) rest more) (steps_size-zero rate t) two))
certified-on rate invert start t octets (x ∷ xs) rest text more one two =
    let next = t + x.kept in
    let left = drop (steps_size rate t x.kept) octets in
    let at : t + (x.kept + kept_of xs) ≡ next + kept_of xs = omega arith in
    let place : drop (steps_size rate t (x.kept + kept_of xs)) octets ≡ drop (steps_size rate next (kept_of xs)) left =
    ap (λ (n : ℕ). drop n octets) (steps_size-add rate t x.kept (kept_of xs))
    ∙ sym (drop-drop (steps_size rate next (kept_of xs)) (steps_size rate t x.kept) octets) in (
      one.0,
      one.1 ++ more,
      one.2,
      certified-on rate invert (Some x.end_state) next left xs rest one.1 more one.3
          (subst (λ (n : ℕ). AreCertified rate invert (starts_after (Some x.end_state) xs) n
          (drop (steps_size rate next (kept_of xs)) left) rest more) at
          (subst (λ (o : List ℕ). AreCertified rate invert (starts_after (Some x.end_state) xs)
          (t + (x.kept + kept_of xs)) o rest more) place two)),
      ap (λ (l : List ℕ). l ++ more) one.4 ∙ append_assoc one.0 one.1 more,
    )

-- and the first windows come first
pub certified-first : (rate : Rate) (invert : Bool) (start : Option ℕ) (t : ℕ) (octets : List ℕ)
    (first rest : List WindowBlock) (whole : List ℕ) → AreCertified rate invert start t octets (first ++ rest) whole
    → (text : List ℕ) × (more : List ℕ) × AreCertified rate invert start t octets first text × (whole ≡ text ++ more)
certified-first rate invert start t octets [] rest whole all = ([], whole, refl, refl)
certified-first rate invert start t octets (x ∷ xs) rest whole all =
    let h = certified-first rate invert (Some x.end_state) (t + x.kept) (drop (steps_size rate t x.kept) octets) xs rest
    all.1 all.3 in (
      all.0 ++ h.0,
      h.1,
      (all.0, h.0, all.2, h.2, refl),
      all.4 ∙ ap (λ (l : List ℕ). all.0 ++ l) h.3 ∙ sym (append_assoc all.0 h.0 h.1),
    )

-- ---- those of a queue that are ready

-- of the first of them a certificate was given
abbrev pub IsPart : Queueing → (start : Option ℕ) → (count : ℕ) → List ℕ → Type 0
IsPart q start count text = BeginEarly q count
    → AreCertified q.windows.settings.rate q.windows.settings.invert start q.run_t q.read (take count q.ready) text

pub record GavePart {T : Type 0} (took : T → Text → T → Type 0) (q : Queueing) (start : Option ℕ) (count : ℕ)
    (texts texts_now : T) : Type 0 where
  pub text : List ℕ
  pub gave : TookOut took texts texts_now text
  pub is : IsPart q start count text

pub part-push : {T : Type 0} (took : T → Text → T → Type 0) (q : Queueing) (start next : Option ℕ) (index : ℕ)
    (block : WindowBlock) (texts middle texts_now : T) → index < length q.ready
    → next ≡ starts_after start (take index q.ready) → GavePart took q start index texts middle
    → GaveWindow took q index next (slice_index_or q.ready index block) middle texts_now
    → GavePart took q start (index + 1) texts texts_now
part-push took q start next index block texts middle texts_now less same part window =
    let x = slice_index_or q.ready index block in
    let rate = q.windows.settings.rate in
    let invert = q.windows.settings.invert in
    record {
      text = part.text ++ window.text;
      gave = took_out-more took texts middle texts_now part.text window.text part.gave window.gave;
      is = λ early.
          subst (λ (l : List WindowBlock). AreCertified rate invert start q.run_t q.read l (part.text ++ window.text))
          (sym (take_more q.ready index block less))
          (certified-on rate invert start q.run_t q.read (take index q.ready) (x ∷ []) part.text window.text
          (part.is (λ i lt. early i (omega (arith, lt)))) (
            window.text,
            [],
            subst (λ (s : Option ℕ). IsCertified rate invert s (step_of q index)
                (take (window_size q index x) (octets_of q index)) x window.text) same
                (window.is (early index (omega arith))),
            refl,
            sym (append-nil window.text),
          ));
    }

-- there is a queue where its windows have a shape
pub queue-of : (o : Option Queueing) (shape : WindowShape) → shape_in o ≡ Some shape → (q : Queueing) × (o ≡ Some q)
queue-of None shape is = absurd (let both : None ≡ Some shape = is in cc)
queue-of (Some q) shape is = (q, refl)

pub part-none : {T : Type 0} (took : T → Text → T → Type 0) (q : Queueing) (start : Option ℕ) (texts : T)
    → GavePart took q start 0 texts texts
part-none took q start texts = record { text = []; gave = took_out-none took texts; is = λ early. refl }

-- all of them
pub ready-gave : {T : Type 0} (took : T → Text → T → Type 0) (d : InnerDecoding) (q : Queueing)
    (start next : Option ℕ) (count : ℕ) (texts texts_now : T) → d.queue ≡ Some q → count ≡ length q.ready
    → IsQueueOf d.config d.queue × HasChosen d.queue d.chosen
    → next ≡ starts_after start (take count (ready_in d.queue)) → GavePart took q start count texts texts_now
    → GaveReady took d start next texts texts_now
ready-gave took d q start next count texts texts_now is all own starts part =
    let blocks = take_all count q.ready (omega (arith, all)) in
    record {
      of = own.0;
      same = own.1;
      text = part.text;
      gave = part.gave;
      is = subst (λ (o : Option Queueing). IsReadyText o start part.text) (sym is)
          (λ early. subst (λ (l : List WindowBlock). AreCertified q.windows.settings.rate
          q.windows.settings.invert start q.run_t q.read l part.text) blocks
          (part.is (λ i less. early i (omega (arith, less, all)))));
      next =
          starts ∙ ap (λ (o : Option Queueing). starts_after start (take count (ready_in o))) is
          ∙ ap (starts_after start) blocks ∙ ap (λ (o : Option Queueing). starts_after start (ready_in o)) (sym is);
    }

pub ready-none : {T : Type 0} (took : T → Text → T → Type 0) (d : InnerDecoding) (start : Option ℕ) (texts : T)
    → IsQueueOf d.config d.queue × HasChosen d.queue d.chosen → shape_in d.queue ≡ None
    → GaveReady took d start start texts texts
ready-none took d start texts own none = go d.queue refl none
  where
    go : (o : Option Queueing) → d.queue ≡ o → shape_in o ≡ None → GaveReady took d start start texts texts
    go None is none = record {
      of = own.0;
      same = own.1;
      text = [];
      gave = took_out-none took texts;
      is = subst (λ (o : Option Queueing). IsReadyText o start []) (sym is) refl;
      next = ap (λ (o : Option Queueing). starts_after start (ready_in o)) (sym is);
    }
    go (Some q) is none = absurd (let both : Some (shape_of q) ≡ None = none in cc)

-- ---- of received octets

-- no window has no text
pub nothing-at : (r : Option Rate) (c : Configuration) (phase : ℕ) (octets : List ℕ) → TextAt r c phase octets [] []
nothing-at None c phase octets = refl
nothing-at (Some rate) c phase octets = refl

-- it hangs on the phase where there is a window
pub text-phase : (r : Option Rate) (c : Configuration) (p q : ℕ) (octets : List ℕ) (blocks : List WindowBlock)
    (text : List ℕ) → (blocks ≡ []) ⊎ (p ≡ q) → TextAt r c p octets blocks text → TextAt r c q octets blocks text
text-phase None c p q octets blocks text same t = t
text-phase (Some rate) c p q octets blocks text (inl none) t =
    let P : List WindowBlock → ℕ → Type 0 = λ l n. IsCertificate (settings_of c rate) (soft_octets c n octets) l text in
    subst (λ (l : List WindowBlock). P l q) (sym none) (subst (λ (l : List WindowBlock). P l p) none t)
text-phase (Some rate) c p q octets blocks text (inr same) t =
    subst (λ (n : ℕ). IsCertificate (settings_of c rate) (soft_octets c n octets) blocks text) same t

-- and stays whatever octets come
abbrev pub Longer : Type 0
Longer = (rate : Rate) (invert : Bool) (keep ahead : ℕ) (from to : Place) (blocks : List WindowBlock)
    (more text : List ℕ) → Closed rate invert keep ahead from blocks to
    → AreCertified rate invert from.starts from.t from.octets blocks text
    → AreCertified rate invert from.starts from.t (from.octets ++ more) blocks text

pub text-longer : Longer → (r : Option Rate) (c : Configuration) (phase : ℕ) (octets more : List ℕ)
    (blocks : List WindowBlock) (text : List ℕ) → c.follow ≡ false → FirstAt r c phase octets blocks
    → TextAt r c phase octets blocks text → TextAt r c phase (octets ++ more) blocks text
text-longer law None c phase octets more blocks text plain are t = t
text-longer law (Some rate) c phase octets more blocks text plain are t =
    let s = settings_of c rate in
    let soft = soft_octets c phase octets in
    let first = first-unfollowed c rate soft blocks plain are in
    subst (λ (o : List ℕ). IsCertificate s o blocks text) (sym (soft-more c phase octets more))
    (law s.rate s.invert s.keep s.ahead (first_place s soft) first.0 blocks _ text first.1 t)
