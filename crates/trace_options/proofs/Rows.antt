-- Each system call of the table is found by its name and by its number.
use Rattle.std.proofs.Common.{◌≡◌, Some, refl}
use Rattle.std.specs.List.{AllByRecursion}
use Rattle.trace_options.specs.Syscalls.{syscall_named, syscall_numbered, syscall_table}

pub found_by_name : AllByRecursion (λ call. syscall_named call.name ≡ Some call) syscall_table
unfolding syscall_table
found_by_name = (
  refl,
  (
    refl,
    (
      refl,
      (
        refl,
        (
          refl,
          (
            refl,
            (
              refl,
              (
                refl,
                (refl, (refl, (refl, (refl, (refl, (refl, (refl, tt))))))),
              ),
            ),
          ),
        ),
      ),
    ),
  ),
)

pub found_by_number : AllByRecursion (λ call. syscall_numbered call.number ≡ Some call) syscall_table
unfolding syscall_table
found_by_number = (
  refl,
  (
    refl,
    (
      refl,
      (
        refl,
        (
          refl,
          (
            refl,
            (
              refl,
              (
                refl,
                (refl, (refl, (refl, (refl, (refl, (refl, (refl, tt))))))),
              ),
            ),
          ),
        ),
      ),
    ),
  ),
)
