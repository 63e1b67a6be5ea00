use Rattle.std.proofs.Common.{rules, arith, ap, sym, subst, ◌∙◌, ◌≡◌, ◌++◌, ◌∷◌, ◌+◌, ◌<◌, map}
use Rattle.radio_bands.specs.declared.band.Band.{Band}
use Rattle.resv_tree.specs.Entries.{key_of, member_of, moved, moved_in, IsByKey, Each, CanMoveIn, own_in}
use Rattle.resv_tree.specs.Shape.{entries, entry_of, right_of, height_of, count_of, greatest_of}
use Rattle.resv_tree.specs.Shape.{kept_sum, IsWhole}
use Rattle.resv_tree.specs.Sums.{quarters_in}
use Rattle.resv_tree.proofs.TreeLemmas.{left_by_key, right_by_key}
use Rattle.resv_tree.proofs.StretchLemmas.{covered_right_of, covered_left_of, covered_low, covered_high, fits_left, fits_right}
use Rattle.resv_tree.proofs.StretchLemmas.{shifted_left, shifted_right, shifted_middle, own_fits}
use Rattle.resv_tree.proofs.ShapeLemmas.{has_sides}
use Rattle.resv_tree.proofs.OwnLemmas.{shifted_sums}
use Rattle.resv_tree.proofs.PlaceLemmas.{made-behind, moves_fit, left_set, right_set, left_set-left, left_set-right}
use Rattle.resv_tree.proofs.PlaceLemmas.{left_set-entry}
use Rattle.resv_tree.proofs.PlaceLemmas.{left_set-kept, right_set-left, right_set-right, right_set-entry, right_set-kept}
use Rattle.resv_tree.proofs.StillLemmas.{greatest_still, own_still, top_still, top_settled}
use Rattle.resv_tree.proofs.stretch.+shift.Goals as goal

pub shift-requires : goal.shift-requires
shift-requires g t c κs within =
    let made = made-behind _ _ _ c.in-Some.is c.deref_mut-node.ensures.value c.settle.ensures.made in
    let more = quarters_in c.args.more.now in
    let less = quarters_in c.args.less.now in (
      search (rules, made.height, c.decreases),
      (
        within,
        (
          made.right,
          (
            right_by_key made c.requires.by_key,
            (
              omega (arith, made.count, c.requires.room),
              (
                fits_right more less made c.requires.fits,
                (covered_right_of more less c.args.from c.args.to made c.requires.covered, c.requires.only),
              ),
            ),
          ),
        ),
      ),
    )

pub shift-requires-then-to-start : goal.shift-requires-then-to-start
shift-requires-then-to-start g t c κs within =
    let made = made-behind _ _ _ c.in-Some.is c.deref_mut-node.ensures.value c.settle.ensures.made in
    let more = quarters_in c.args.more.now in
    let less = quarters_in c.args.less.now in (
      search (rules, made.height, c.decreases),
      (
        within,
        (
          made.left,
          (
            left_by_key made c.requires.by_key,
            (
              omega (arith, made.count, c.requires.room),
              (
                fits_left more less made c.requires.fits,
                (covered_left_of more less c.args.from c.args.to made c.requires.covered, c.requires.only),
              ),
            ),
          ),
        ),
      ),
    )

pub shift-requires-2 : goal.shift-requires-2
shift-requires-2 g t c κs within =
    let made = made-behind _ _ _ c.in-Some.is c.deref_mut-node.ensures.value c.settle.ensures.made in
    let more = quarters_in c.args.more.now in
    let less = quarters_in c.args.less.now in (
      search (rules, made.height, c.decreases),
      (
        within,
        (
          made.left,
          (
            left_by_key made c.requires.by_key,
            (
              omega (arith, made.count, c.requires.room),
              (
                fits_left more less made c.requires.fits,
                (
                  covered_low more less c.args.from c.args.to made c.requires.by_key
                      (omega (arith, ap key_of c.entry-start.ensures, c.if-to-start.false)) c.requires.covered,
                  c.requires.only,
                ),
              ),
            ),
          ),
        ),
      ),
    )

pub shift-requires-3 : goal.shift-requires-3
shift-requires-3 g t c κs within =
    let m = c.settle.new.node in
    let made = made-behind _ _ _ c.in-Some.is c.deref_mut-node.ensures.value c.settle.ensures.made in
    let more = quarters_in c.args.more.now in
    let less = quarters_in c.args.less.now in
    let same : right_of (left_set m c.shift-2.new.link) ≡ right_of m = left_set-right m c.shift-2.new.link in
    let high = covered_high more less c.args.from c.args.to made c.requires.by_key
    (omega (arith, ap key_of c.entry-start.ensures, c.if-start-from.false)) c.requires.covered in (
      search (rules, made.height, c.decreases, ap height_of same),
      (
        within,
        (
          subst IsWhole (sym same) made.right,
          (
            subst (λ s. IsByKey (entries s)) (sym same) (right_by_key made c.requires.by_key),
            (
              omega (arith, made.count, c.requires.room, ap count_of same),
              (
                subst (λ s. (band : Band) → greatest_of s band + more band < 4294967296) (sym same)
                    (fits_right more less made c.requires.fits),
                (subst (λ s. Each (CanMoveIn 0 c.args.to more less) (entries s)) (sym same) high, c.requires.only),
              ),
            ),
          ),
        ),
      ),
    )

pub move_entry-requires : goal.move_entry-requires
move_entry-requires g t c =
    let m = c.settle.new.node in
    let made = made-behind _ _ _ c.in-Some.is c.deref_mut-node.ensures.value c.settle.ensures.made in
    let more = quarters_in c.args.more.now in
    let less = quarters_in c.args.less.now in
    let same = right_set-entry (left_set m c.shift-2.new.link) c.shift-3.new.link ∙ left_set-entry m c.shift-2.new.link in
    record { fits = moves_fit more less _ _ same (own_fits more less made c.requires.fits); only = c.requires.only }

pub renew-requires-clause-sides : goal.renew-requires-clause-sides
renew-requires-clause-sides g t c =
    let m = c.settle.new.node in
    let s = c.shift.new.link in
    let made = made-behind _ _ _ c.in-Some.is c.deref_mut-node.ensures.value c.settle.ensures.made in
    let right = c.shift.ensures in
    let left = right_set-left m s in
    let new = right_set-right m s in
    has_sides _ _ _ _ _ _ _ _ c.settle.ensures.kept (right_set-kept m s) (sym (ap member_of (right_set-entry m s)))
    (ap height_of left) (ap count_of left) (λ band. ap (λ x. kept_sum x band) left)
    (ap height_of new ∙ right.height) (ap count_of new ∙ right.count)
    (λ band. ap (λ x. kept_sum x band) new ∙ shifted_sums _ _ _ _ _ _ right.whole made.right right.entries band)

pub renew-requires-then-to-start-clause-sides : goal.renew-requires-then-to-start-clause-sides
renew-requires-then-to-start-clause-sides g t c =
    let m = c.settle.new.node in
    let s = c.shift-then-to-start.new.link in
    let made = made-behind _ _ _ c.in-Some.is c.deref_mut-node.ensures.value c.settle.ensures.made in
    let left = c.shift-then-to-start.ensures in
    let new = left_set-left m s in
    let right = left_set-right m s in
    has_sides _ _ _ _ _ _ _ _ c.settle.ensures.kept (left_set-kept m s) (sym (ap member_of (left_set-entry m s)))
    (ap height_of new ∙ left.height) (ap count_of new ∙ left.count)
    (λ band. ap (λ x. kept_sum x band) new ∙ shifted_sums _ _ _ _ _ _ left.whole made.left left.entries band)
    (ap height_of right) (ap count_of right) (λ band. ap (λ x. kept_sum x band) right)

pub renew-requires-2-clause-sides : goal.renew-requires-2-clause-sides
renew-requires-2-clause-sides g t c =
    let m = c.settle.new.node in
    let s = c.shift-2.new.link in
    let u = c.shift-3.new.link in
    let made = made-behind _ _ _ c.in-Some.is c.deref_mut-node.ensures.value c.settle.ensures.made in
    let more = quarters_in c.args.more.now in
    let less = quarters_in c.args.less.now in
    let moves = c.move_entry.ensures in
    let same = left_set-right m s in
    let left = c.shift-2.ensures in
    let right = c.shift-3.ensures in
    let new_left = moves.left ∙ right_set-left (left_set m s) u ∙ left_set-left m s in
    let new_right = moves.right ∙ right_set-right (left_set m s) u in
    let entry = right_set-entry (left_set m s) u ∙ left_set-entry m s in
    let kept = moves.kept ∙ right_set-kept (left_set m s) u ∙ left_set-kept m s in
    has_sides _ _ _ _ _ _ _ _ c.settle.ensures.kept kept (sym (ap member_of (moves.entry ∙ ap (moved more less) entry)))
    (ap height_of new_left ∙ left.height) (ap count_of new_left ∙ left.count)
    (λ band. ap (λ x. kept_sum x band) new_left ∙ shifted_sums _ _ _ _ _ _ left.whole made.left left.entries band)
    (ap height_of new_right ∙ right.height ∙ ap height_of same) (ap count_of new_right ∙ right.count ∙ ap count_of same)
    (λ band. ap (λ x. kept_sum x band) new_right
    ∙ shifted_sums _ _ _ _ _ _ right.whole (subst IsWhole (sym same) made.right) right.entries band
    ∙ ap (λ x. kept_sum x band) same)

pub returns-then-start-from-clause-entries : goal.returns-then-start-from-clause-entries
returns-then-start-from-clause-entries g t c =
    let m = c.settle.new.node in
    let s = c.shift.new.link in
    let made = made-behind _ _ _ c.in-Some.is c.deref_mut-node.ensures.value c.settle.ensures.made in
    let more = quarters_in c.args.more.now in
    let less = quarters_in c.args.less.now in
    let right = ap entries (right_set-right m s) ∙ c.shift.ensures.entries in
    c.renew.ensures.made.entries
    ∙ (λ i. entries (right_set-left m s i) ++ right_set-entry m s i ∷ right i)
    ∙ sym (shifted_right more less c.args.from c.args.to made c.requires.by_key
    (omega (arith, ap key_of c.entry-start.ensures, c.if-start-from.true)))

pub returns-then-to-start-clause-entries : goal.returns-then-to-start-clause-entries
returns-then-to-start-clause-entries g t c =
    let m = c.settle.new.node in
    let s = c.shift-then-to-start.new.link in
    let made = made-behind _ _ _ c.in-Some.is c.deref_mut-node.ensures.value c.settle.ensures.made in
    let more = quarters_in c.args.more.now in
    let less = quarters_in c.args.less.now in
    let left = ap entries (left_set-left m s) ∙ c.shift-then-to-start.ensures.entries in
    c.renew-then-to-start.ensures.made.entries
    ∙ (λ i. left i ++ left_set-entry m s i ∷ entries (left_set-right m s i))
    ∙ sym (shifted_left more less c.args.from c.args.to made c.requires.by_key
    (omega (arith, ap key_of c.entry-start.ensures, c.if-to-start.true)))

pub returns-clause-entries : goal.returns-clause-entries
returns-clause-entries g t c =
    let m = c.settle.new.node in
    let s = c.shift-2.new.link in
    let u = c.shift-3.new.link in
    let made = made-behind _ _ _ c.in-Some.is c.deref_mut-node.ensures.value c.settle.ensures.made in
    let more = quarters_in c.args.more.now in
    let less = quarters_in c.args.less.now in
    let moves = c.move_entry.ensures in
    let left = ap entries (moves.left ∙ right_set-left (left_set m s) u ∙ left_set-left m s) ∙ c.shift-2.ensures.entries in
    let old_entry = right_set-entry (left_set m s) u ∙ left_set-entry m s in
    let entry = moves.entry ∙ ap (moved more less) old_entry in
    let right = ap entries (moves.right ∙ right_set-right (left_set m s) u) ∙ c.shift-3.ensures.entries
    ∙ ap (λ x. map (moved_in 0 c.args.to more less) (entries x)) (left_set-right m s) in
    c.renew-2.ensures.made.entries
    ∙ (λ i. left i ++ entry i ∷ right i)
    ∙ sym (shifted_middle more less c.args.from c.args.to made c.requires.by_key
    (omega (arith, ap key_of c.entry-start.ensures, c.if-start-from.false))
    (omega (arith, ap key_of c.entry-start.ensures, c.if-to-start.false)))

pub renew-requires-clause-others : goal.renew-requires-clause-others
renew-requires-clause-others g t c = λ other f.
    let m = c.settle.new.node in
    let s = c.shift.new.link in
    let made = made-behind _ _ _ c.in-Some.is c.deref_mut-node.ensures.value c.settle.ensures.made in
    let more = quarters_in c.args.more.now in
    let less = quarters_in c.args.less.now in
    let right = c.shift.ensures in
    let still = greatest_still more less other (c.requires.only other f) _ _ _ _ right.whole made.right right.entries in
    top_still m (right_set m s) other (right_set-kept m s) (top_settled _ m c.settle.ensures.same c.settle.ensures.made other)
    (ap (λ x. greatest_of x other) (right_set-left m s)) (ap (own_in other) (right_set-entry m s))
    (ap (λ x. greatest_of x other) (right_set-right m s) ∙ still)

pub renew-requires-then-to-start-clause-others : goal.renew-requires-then-to-start-clause-others
renew-requires-then-to-start-clause-others g t c = λ other f.
    let m = c.settle.new.node in
    let s = c.shift-then-to-start.new.link in
    let made = made-behind _ _ _ c.in-Some.is c.deref_mut-node.ensures.value c.settle.ensures.made in
    let more = quarters_in c.args.more.now in
    let less = quarters_in c.args.less.now in
    let left = c.shift-then-to-start.ensures in
    let still = greatest_still more less other (c.requires.only other f) _ _ _ _ left.whole made.left left.entries in
    top_still m (left_set m s) other (left_set-kept m s) (top_settled _ m c.settle.ensures.same c.settle.ensures.made other)
    (ap (λ x. greatest_of x other) (left_set-left m s) ∙ still) (ap (own_in other) (left_set-entry m s))
    (ap (λ x. greatest_of x other) (left_set-right m s))

pub renew-requires-2-clause-others : goal.renew-requires-2-clause-others
renew-requires-2-clause-others g t c = λ other f.
    let m = c.settle.new.node in
    let s = c.shift-2.new.link in
    let u = c.shift-3.new.link in
    let made = made-behind _ _ _ c.in-Some.is c.deref_mut-node.ensures.value c.settle.ensures.made in
    let more = quarters_in c.args.more.now in
    let less = quarters_in c.args.less.now in
    let moves = c.move_entry.ensures in
    let same = left_set-right m s in
    let left = c.shift-2.ensures in
    let right = c.shift-3.ensures in
    let none = c.requires.only other f in
    let new_left = moves.left ∙ right_set-left (left_set m s) u ∙ left_set-left m s in
    let new_right = moves.right ∙ right_set-right (left_set m s) u in
    let entry = right_set-entry (left_set m s) u ∙ left_set-entry m s in
    let kept = moves.kept ∙ right_set-kept (left_set m s) u ∙ left_set-kept m s in
    let still_left = greatest_still more less other none _ _ _ _ left.whole made.left left.entries in
    let still_right = greatest_still more less other none _ _ _ _ right.whole (subst IsWhole (sym same) made.right)
    right.entries in
    top_still m c.move_entry.new.self other kept (top_settled _ m c.settle.ensures.same c.settle.ensures.made other)
    (ap (λ x. greatest_of x other) new_left ∙ still_left)
    (ap (own_in other) (moves.entry ∙ ap (moved more less) entry) ∙ own_still more less other none (entry_of m))
    (ap (λ x. greatest_of x other) new_right ∙ still_right ∙ ap (λ x. greatest_of x other) same)
